pub mod Held
pub mod Ends
