pub mod Lines
pub mod Filling
pub mod Tails
pub mod Standing
pub mod Looking
pub mod Answers
pub mod Written
