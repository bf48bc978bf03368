pub mod Interleaving
pub mod Checked
pub mod Seen
