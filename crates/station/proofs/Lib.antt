pub mod Once
pub mod Stores
