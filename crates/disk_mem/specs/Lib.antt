pub mod Device
pub mod FileState
pub mod Files
pub mod Laid
pub mod Laws
pub mod SameFile
