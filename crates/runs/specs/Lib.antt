pub mod Calls
pub mod Kinds
pub mod Laws
pub mod Promises
pub mod Size
pub mod Tallies
pub mod Tokens
pub mod Wakers
