-- What is shown of the definitions, and what the proofs of several functions use.
pub mod Alike
pub mod Exactness
pub mod Order
mod Returns
pub mod Tightness
mod Walk
pub mod Promised
