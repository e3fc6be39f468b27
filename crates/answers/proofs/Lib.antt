pub mod Rewriting
pub mod Steps
pub mod Filled
