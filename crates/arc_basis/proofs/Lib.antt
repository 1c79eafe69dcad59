pub mod Examples
pub mod JoinAll
mod JoinLoop
pub mod Joints
pub mod LabelCounts
pub mod Laws
mod Linked
pub mod OneItem
mod PageLinked
pub mod Paired
pub mod Places
pub mod Rows
mod SidePlaces
mod Tables
mod Together
pub mod Whole
