pub mod Polynomial
pub mod Call
pub mod laws
