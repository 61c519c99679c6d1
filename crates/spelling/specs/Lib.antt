pub mod Decides
pub mod Words
pub mod Display
