pub mod Scale
pub mod Place
pub mod Promise
