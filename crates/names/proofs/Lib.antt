pub mod Fitting
pub mod Looking
pub mod Words
pub mod Passing
pub mod Readers
pub mod Once
