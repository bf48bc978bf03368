pub mod Checks
pub mod Kept
pub mod InTurn
pub mod Passing
