pub mod Integers
pub mod laws
