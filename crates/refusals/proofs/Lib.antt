pub mod Positive
pub mod Passed
