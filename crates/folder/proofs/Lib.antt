pub mod Counted
pub mod Once
pub mod Told
pub mod Upgraded
