pub mod Telling
pub mod Words
