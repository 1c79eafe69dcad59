mod Answering
mod Ascending
pub mod BookWords
mod Built
mod Certified
mod Collected
mod CommandEntered
mod CommandFirst
mod CommandFlags
pub mod CommandLaws
mod CommandReads
mod CommandSample
mod CommandTaken
mod CommandValues
mod Decides
mod Examples
mod FirstDrawn
mod LimitRead
mod Limits
mod Moved
mod Named
mod OverLimit
pub mod ReadOpens
pub mod SampleBook
pub mod SampleOpens
mod Stops
mod Surfaces
mod Within
