pub mod Number
pub mod Input
pub mod Printed
pub mod Output
pub mod Scanned
pub mod Lines
