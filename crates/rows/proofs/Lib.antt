pub mod Replying
pub mod Cutting
pub mod Rowing
