pub mod Bounded
pub mod BoundedSet
pub mod Ground
pub mod Group
