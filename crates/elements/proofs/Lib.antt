pub mod Every
pub mod Indices
pub mod Common
pub mod Rule
