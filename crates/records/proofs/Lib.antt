pub mod Maps
pub mod Reading
pub mod Sound
pub mod Present
