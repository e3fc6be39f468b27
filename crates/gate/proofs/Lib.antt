pub mod Sofar
pub mod Runs
pub mod Models
pub mod Columns
pub mod Consequences
pub mod Told
