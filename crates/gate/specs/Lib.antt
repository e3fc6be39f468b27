pub mod Gate
pub mod Promise
