pub mod Answers
pub mod Bounded
pub mod Ordered
pub mod Recorded
pub mod Steps
pub mod Texts
