pub mod FieldList
pub mod Faults
pub mod Groups
pub mod Shorter
pub mod Shortest
pub mod Spelled
pub mod Spellings
pub mod Steps
