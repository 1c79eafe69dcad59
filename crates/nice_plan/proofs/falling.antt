-- How a burst lowers the weight: the list of pieces with labels, finger by finger.
pub mod BurstFalls
pub mod Finger
pub mod FingerFalls
pub mod Orbit
pub mod Reordered
pub mod RowFalls
pub mod Sizes
pub mod Spans
pub mod Splits
pub mod Start
pub mod Stops
pub mod Tally
pub mod WeightFalls
