pub mod Choice
pub mod Clean
pub mod Bools
