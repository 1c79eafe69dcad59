mod Bordering
pub mod Boundary
pub mod ChordTree
pub mod CutAlways
pub mod Diagram
pub mod Ends
pub mod Examples
pub mod Filled
pub mod FingerExamples
pub mod FingerLaws
pub mod fingers
pub mod Generators
mod Hits
pub mod IdentityEmbedded
pub mod IdentityLaws
mod IdentityTables
mod KeptTables
mod LaidPush
mod LaidThin
mod LinkTables
pub mod Laws
mod LayoutTables
pub mod Lists
pub mod Mates
pub mod Moved
pub mod Orbits
pub mod PieceCount
mod PieceTrees
pub mod Placed
mod PlaceTables
mod PushKept
mod PushTables
mod PushStrands
mod PutStrands
mod RaiseTables
mod RoomTables
pub mod RoundPiece
pub mod SamePiece
mod SpanTests
pub mod Spots
mod StackSweep
pub mod StrandTables
pub mod SweepTables
mod SweepTest
pub mod Tests
mod ThinKept
pub mod Thinned
mod ThinnedTwice
mod ThinTables
pub mod tight
pub mod TightLaws
pub mod TreeExamples
pub mod TreeLaws
mod TurnAt
mod TurnLeft
mod TurnTables
mod Windows
