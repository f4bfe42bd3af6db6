pub mod Queue
pub mod Wakes
