mod Alone
mod Appending
mod Exists
mod Gates
mod Heads
mod Made
mod Places
mod Steps
mod Further
mod Folding
mod Overwriting
mod Building
mod Copied
pub mod Parts
