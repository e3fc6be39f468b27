pub mod Signs
pub mod Caps
pub mod Returns
pub mod Sides
pub mod Formats
pub mod Within
pub mod Choices
pub mod Writes
