pub mod Hints
pub mod Lent
pub mod laws
