pub mod Advance
pub mod Calls
pub mod Keyed
pub mod Left
pub mod Overwritten
pub mod Retained
pub mod Sound
pub mod Spans
