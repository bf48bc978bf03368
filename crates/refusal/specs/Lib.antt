pub mod Refusals
pub mod Replied
pub mod laws
