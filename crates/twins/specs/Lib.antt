pub mod Twins
pub mod Standing
