pub mod Lists
pub mod laws
