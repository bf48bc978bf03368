pub mod Table
pub mod Path
pub mod Outcome
pub mod Limits
pub mod Best
pub mod laws
