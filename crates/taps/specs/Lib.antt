pub mod Taps
pub mod Build
pub mod laws
