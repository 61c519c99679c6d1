pub mod Laws
pub mod Adopting
