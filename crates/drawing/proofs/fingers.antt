-- Finger moves: where their new points and chords stand, and that a legal one has exactly one effect.
pub mod Arranged
pub mod Effects
pub mod Finger
pub mod InPlace
pub mod NewChords
pub mod NewEmbedded
pub mod NewPlaces
pub mod NewSpots
pub mod OneEffect
pub mod Premise
pub mod Replayed
pub mod Shift
pub mod Words
