pub mod Slots
pub mod Marks
pub mod Test
pub mod Pass
pub mod Named
pub mod Follow
pub mod Verdict
