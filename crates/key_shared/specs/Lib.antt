pub mod Laws
pub mod Murmur
pub mod Ranges
