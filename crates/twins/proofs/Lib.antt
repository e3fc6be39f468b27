pub mod Self
pub mod Same
pub mod Columns
pub mod Standing
