pub mod Cases
pub mod laws
