pub mod ImageProduct
pub mod CurveWords
mod Cuts
pub mod Laws
mod Moving
pub mod Numbered
pub mod Passed
pub mod PushWords
pub mod Readings
mod Reducing
pub mod SideLetters
mod Stacks
mod Tables
mod Turning
pub mod Turns
