pub mod Inputs
pub mod Makes
pub mod Words
