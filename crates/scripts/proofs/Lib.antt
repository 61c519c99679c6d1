pub mod Stores
pub mod Parts
pub mod Cuts
pub mod Stepping
pub mod Turns
pub mod Once
