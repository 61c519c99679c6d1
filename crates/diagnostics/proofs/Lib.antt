pub mod Messages
pub mod Reasons
pub mod Places
pub mod Offsets
pub mod Lines
pub mod Corners
