pub mod ChordTables
mod AskedSpans
mod AskedTables
mod CountedTable
mod CountSteps
mod DistanceCode
mod DistanceFall
mod DistanceRise
pub mod Distances
mod DistanceSteps
pub mod Doors
mod EdgeReads
pub mod EdgeWalk
mod EndTables
pub mod Examples
pub mod FingerExamples
pub mod fingers
mod FrameTables
mod FreshTable
pub mod KeptLaws
mod KeptReads
pub mod Labels
pub mod NamingLaws
mod ListedSteps
mod MadeTable
pub mod NumberSteps
mod NumberSweep
mod QuadrantReads
mod RisingLists
mod RoomTables
mod RowTables
mod SameMembers
mod SegmentReads
pub mod SpanCount
pub mod TableLaws
pub mod TableNames
pub mod TablePlaces
pub mod TableReads
pub mod Tests
mod ToldLists
mod ToldSteps
mod ToldTables
pub mod WeightBound
mod Written
