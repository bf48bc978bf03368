pub mod Filling
pub mod Tables
pub mod Examples
