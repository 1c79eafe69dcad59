pub mod Slide
pub mod Refused
pub mod Slides
pub mod Letters
pub mod Carried
