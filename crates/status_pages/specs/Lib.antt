pub mod Escapes
pub mod Told
pub mod Lines
pub mod Metrics
pub mod Pages
pub mod Requests
