pub mod Flips
pub mod Held
pub mod Polls
pub mod Table
