pub mod Runs
pub mod Texts
pub mod Bytes
pub mod Numbers
pub mod Keywords
pub mod Fitting
