mod Curves
mod DirectWords
mod FirstWords
pub mod Laws
mod TurnsSoFar
mod Refusals
pub mod WordsAfter
