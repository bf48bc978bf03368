pub mod Interleaver
pub mod Frame
pub mod laws
