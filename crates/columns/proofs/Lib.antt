pub mod Faults
pub mod Spans
pub mod Loops
pub mod Puts
pub mod Readers
pub mod Rules
