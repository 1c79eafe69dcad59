pub mod Examples
pub mod Order
pub mod Steps
pub mod NewSide
pub mod SlidExits
pub mod SlidPassings
pub mod SlidChords
pub mod SlidCurve
pub mod Laws
pub mod SlidLetters
pub mod SlidesLaw
pub mod ByNumbers
pub mod LetterKinds
pub mod LetterPlaces
pub mod NewNumbers
pub mod SlidPassed
mod SideTables
mod PointTables
mod CarriedTables
mod FirstLong
