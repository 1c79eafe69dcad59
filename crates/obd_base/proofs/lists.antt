-- Lemmas on lists that the crates above share.
pub mod Below
pub mod Counts
pub mod Maps
pub mod Members
pub mod Numbered
pub mod Parts
pub mod Sums
