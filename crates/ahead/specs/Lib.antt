pub mod Ahead
pub mod Stamps
