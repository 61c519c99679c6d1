pub mod Reach
pub mod Rules
