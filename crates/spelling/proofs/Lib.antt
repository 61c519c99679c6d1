pub mod Deciding
pub mod Spellings
pub mod Slots
