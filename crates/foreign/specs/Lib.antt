pub mod Check
pub mod Walk
