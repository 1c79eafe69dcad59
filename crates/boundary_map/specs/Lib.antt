pub mod Odds
pub mod Sets
pub mod Tried
