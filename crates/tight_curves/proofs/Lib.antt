mod AllMade
mod Conjugates
mod CyclicForms
pub mod Examples
mod FreeWords
mod InnermostFound
pub mod Laws
mod Numbers
mod PairsGone
mod PartCurve
mod PartMoves
mod PartPlaces
mod PartPoints
mod PartPushes
mod PartWords
mod PlacesTold
mod Rotations
mod TightMade
mod TurnSearch
mod TurnSteps
mod TurnTests
mod TurnsAnywhere
mod TurnsOut
pub mod TwistWords
mod WholeCurve
