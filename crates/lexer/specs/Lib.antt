-- in the order of reading
pub mod Reads
pub mod Parts
pub mod Lexes
