pub mod Halves
pub mod Wings
pub mod Metrics
pub mod Tables
pub mod Positions
pub mod Flights
