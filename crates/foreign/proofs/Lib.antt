-- one answer
pub mod Checking
-- a walk from the root
pub mod Each
pub mod Walks
-- what our reader writes
pub mod Suits
pub mod Sitting
pub mod Lawful
pub mod Passing
pub mod Accepted
