mod Accepted
mod Built
mod Carried
pub mod ChordEnds
pub mod Circle
mod CurveEnds
pub mod CurvePassings
pub mod CurvePlanar
pub mod CurvePoints
pub mod Examples
mod Exits
mod Finds
pub mod Homs
mod Kept
mod LabelPlaces
pub mod Laws
pub mod Letters
pub mod Matching
pub mod Members
pub mod NameWords
pub mod NotCrossing
mod Numbers
mod Orders
pub mod Passings
mod PathChords
pub mod PathExamples
mod PathThrough
mod PathWords
pub mod Planar
pub mod PointPlaces
pub mod Ranges
mod Ranks
pub mod Reduction
mod Rules
mod SeamWords
mod Starts
pub mod Tests
mod Through
mod ThroughCurve
