pub mod Counting
pub mod Interleaving
pub mod Flags
pub mod Puncturing
pub mod Turns
