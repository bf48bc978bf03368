pub mod Result
pub mod laws
