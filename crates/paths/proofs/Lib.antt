pub mod Rows
pub mod Undoing
