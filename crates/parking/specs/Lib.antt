pub mod Bags
pub mod Heaps
pub mod Held
pub mod HeldPairs
pub mod Places
