pub mod Counted
pub mod Fresh
pub mod Written
pub mod Worked
pub mod Told
