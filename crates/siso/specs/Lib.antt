pub mod Decode
pub mod Lent
pub mod laws
