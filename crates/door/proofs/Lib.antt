pub mod Searching
pub mod Codes
