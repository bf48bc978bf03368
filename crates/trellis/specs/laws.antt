pub mod Branches
pub mod Sizes
pub mod MaxPlus
pub mod Over
pub mod Sweeps
pub mod Outside
