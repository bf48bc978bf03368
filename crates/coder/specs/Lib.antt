pub mod Coder
pub mod Lent
pub mod Tail
pub mod laws
