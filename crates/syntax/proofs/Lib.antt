pub mod Finishing
pub mod Scripts
pub mod Guards
pub mod Calls
pub mod Promises
