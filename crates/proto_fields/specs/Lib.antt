pub mod Reading
pub mod Varint
pub mod Fields
pub mod Faults
pub mod Spelling
pub mod Put
pub mod Laws
