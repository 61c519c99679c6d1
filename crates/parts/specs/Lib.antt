-- in the order of reading
pub mod Moved
pub mod Spoken
pub mod Packed
pub mod Dropped
pub mod Joined
