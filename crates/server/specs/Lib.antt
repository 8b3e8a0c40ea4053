pub mod Advertised
pub mod Told
