pub mod Whole
pub mod Places
pub mod Looking
pub mod Scales
