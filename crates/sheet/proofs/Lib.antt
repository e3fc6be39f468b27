pub mod Registrations
pub mod Sense
pub mod Laws
