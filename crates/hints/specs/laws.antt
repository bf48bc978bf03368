pub mod Seeing
pub mod Examples
