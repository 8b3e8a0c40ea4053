pub mod Backlog
pub mod Deliveries
pub mod Listing
