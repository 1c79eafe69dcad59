pub mod Closed
pub mod Parts
pub mod Turns
