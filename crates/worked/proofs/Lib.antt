pub mod Worked
pub mod Further
pub mod Crystal
