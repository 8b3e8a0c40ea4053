pub mod Written
pub mod Fed
pub mod Serving
