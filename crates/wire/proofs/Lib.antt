pub mod Decimals
pub mod Fields
pub mod Lines
pub mod Scanning
pub mod Outputs
