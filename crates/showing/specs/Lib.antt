pub mod Listed
pub mod Noted
