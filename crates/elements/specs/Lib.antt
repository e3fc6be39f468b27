pub mod Elements
pub mod Promise
