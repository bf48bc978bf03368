pub mod Bounds
pub mod Difference
pub mod Linear
pub mod Laws
pub mod Parts
