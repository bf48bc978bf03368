pub mod Rows
pub mod Sheet
