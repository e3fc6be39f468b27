pub mod Exact
pub mod Feed
pub mod Frame
pub mod Promise
