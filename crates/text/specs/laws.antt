pub mod Comparing
pub mod Cutting
pub mod Reading
pub mod Printing
