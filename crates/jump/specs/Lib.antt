pub mod Jumping
pub mod Promise
