pub mod Cause
pub mod Event
pub mod Fault
pub mod Replay
