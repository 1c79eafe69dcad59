mod AnyBurst
mod Applied
mod BurstLegal
mod BurstLength
mod BurstLowers
mod BurstNumbers
mod ChordNames
pub mod ChosenPiece
mod ChosenSteps
mod closed
mod Counting
mod Distance
mod DoorChain
mod DoorSearch
mod DoorsLeft
mod DoorSteps
mod EdgeSteps
pub mod Examples
mod falling
mod Farther
pub mod Fitting
mod GoesBefore
pub mod Laws
mod KeptNames
mod Ledger
mod MeasuredReads
mod NameOfChord
mod Nearer
mod NextBurst
mod NoNearer
mod PathDoors
pub mod PathEnds
mod PathSegments
mod PathSteps
mod PathStops
mod PieceRounds
mod PlanSteps
mod PushDoor
mod Pushing
mod RaisedRows
mod RowEnd
mod RowLast
mod RowLegal
mod Rows
mod Stepping
mod SumTree
pub mod StrategyEnds
mod Tracing
mod Weight
