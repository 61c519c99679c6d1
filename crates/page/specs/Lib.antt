pub mod Hint
pub mod Line
