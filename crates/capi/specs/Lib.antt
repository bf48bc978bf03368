pub mod Returned
pub mod laws
