mod AnyOrder
pub mod ColumnLaws
mod Corners
pub mod Examples
mod Firsts
mod LeadColumns
mod LedTo
mod Loops
mod Odds
mod PartNumbers
mod PartSets
mod QuadrantsMet
mod SameMembers
mod TargetColumns
mod SortedOdds
mod Targets
