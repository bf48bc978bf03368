pub mod Receiving
pub mod Range
pub mod Printing
pub mod Decoding
pub mod Answers
