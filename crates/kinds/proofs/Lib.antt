pub mod Returns
pub mod First
