pub mod Sizes
pub mod Entries
pub mod Contents
pub mod Steps
pub mod Verdicts
pub mod Readings
pub mod Pieces
pub mod Written
