pub mod Links
pub mod Packed
pub mod Search
