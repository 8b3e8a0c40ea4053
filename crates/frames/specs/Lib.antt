pub mod Faults
pub mod Frames
pub mod Streams
pub mod Reading
pub mod Taking
pub mod Laws
