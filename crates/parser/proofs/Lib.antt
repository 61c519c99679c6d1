pub mod Levels
pub mod Entries
pub mod Forms
pub mod Sorts
pub mod Statements
