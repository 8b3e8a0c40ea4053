pub mod Names
pub mod Catalogs
pub mod Growing
pub mod Folded
pub mod Laws
