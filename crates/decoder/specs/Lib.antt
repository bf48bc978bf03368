pub mod Decoder
pub mod Lent
pub mod laws
