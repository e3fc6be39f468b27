pub mod Counting
pub mod Copies
pub mod Recounts
pub mod Shares
