pub mod Hits
pub mod Looking
pub mod Found
