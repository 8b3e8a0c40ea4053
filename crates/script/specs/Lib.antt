pub mod Line
pub mod Script
pub mod Reading
pub mod Output
pub mod Laws
