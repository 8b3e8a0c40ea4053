pub mod Outputs
pub mod Writes
pub mod Numbers
