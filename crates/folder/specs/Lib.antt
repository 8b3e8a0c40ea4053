pub mod Faults
pub mod Looking
pub mod Making
pub mod Upgrading
