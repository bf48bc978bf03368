pub mod Making
pub mod Examples
