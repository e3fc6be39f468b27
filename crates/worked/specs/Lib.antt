pub mod Texts
pub mod Worked
pub mod Crystal
