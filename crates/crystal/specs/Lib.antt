pub mod Crystal
