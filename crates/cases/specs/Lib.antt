pub mod Bounded
pub mod Ordered
