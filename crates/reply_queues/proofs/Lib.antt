pub mod Distinct
pub mod Lists
pub mod Places
pub mod Sessions
