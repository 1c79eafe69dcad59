mod Empty
pub mod EmbeddedTest
pub mod Examples
pub mod FewSides
mod Filled
mod Firsts
pub mod Keys
pub mod LabelNumbers
pub mod Laws
pub mod Names
mod Numbered
pub mod Partners
mod ReachedMarks
mod ReadSoFar
mod SideNumbers
mod SideTables
pub mod Sides
mod Tables
pub mod WordLaws
mod WrongLabels
