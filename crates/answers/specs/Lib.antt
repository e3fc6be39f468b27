pub mod Boundary
pub mod Frame
pub mod Promise
