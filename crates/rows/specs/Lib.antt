pub mod Rows
pub mod Lines
pub mod Lent
pub mod laws
