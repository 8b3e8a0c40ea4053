pub mod Ids
pub mod Laws
