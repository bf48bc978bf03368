pub mod CasesHold
pub mod Places
pub mod Ends
pub mod Frames
