pub mod House
pub mod laws
