-- Tight drawings: the order of their points, and how turns are taken out.
pub mod GoalOrder
pub mod KeptPlaces
mod TurnExample
pub mod StrandWays
pub mod TightPlaces
pub mod Tightened
pub mod TurnChords
pub mod TurnCounts
pub mod TurnFound
pub mod TurnGone
pub mod TurnMap
pub mod TurnRemoved
pub mod TwoMore
pub mod Uncross
pub mod Ways
