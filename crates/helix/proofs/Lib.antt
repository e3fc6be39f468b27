pub mod Extents
pub mod Laws
