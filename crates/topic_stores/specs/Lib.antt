pub mod Appends
pub mod Views
pub mod Writing
pub mod Laws
pub mod Old
pub mod OldTopics
