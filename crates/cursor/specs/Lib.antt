pub mod Positions
pub mod Ranged
