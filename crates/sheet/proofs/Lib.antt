pub mod Receiving
pub mod Fits
