pub mod Pieces
pub mod Reading
pub mod Fitting
