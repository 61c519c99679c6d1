pub mod Tables
pub mod Cells
pub mod Steps
pub mod Chains
pub mod Left
pub mod Tells
pub mod Parts
