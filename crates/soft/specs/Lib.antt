pub mod Soft
pub mod laws
