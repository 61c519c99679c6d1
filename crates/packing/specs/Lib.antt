-- in the order of reading
pub mod Digits
pub mod Good
pub mod Answer
pub mod Roles
pub mod Seen
pub mod Stack
pub mod Words
pub mod Known
pub mod Kept
pub mod Rows
