pub mod Message
pub mod Reason
pub mod Line
