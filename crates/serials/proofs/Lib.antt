pub mod Rows
pub mod Block
pub mod Finding
pub mod Models
pub mod Unread
