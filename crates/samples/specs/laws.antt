pub mod Products
pub mod Rounding
pub mod Settings
pub mod Calls
pub mod Nearest
pub mod Values
pub mod Examples
