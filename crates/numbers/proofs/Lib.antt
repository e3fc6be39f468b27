pub mod Steps
pub mod Runs
pub mod Products
pub mod Laws
pub mod Puts
pub mod Readings
