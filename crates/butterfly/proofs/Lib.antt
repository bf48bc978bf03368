pub mod Sums
pub mod Entries
pub mod Signs
pub mod Sections
pub mod Full
pub mod Told
