mod Entries
pub mod Examples
mod Logs
mod Numbers
mod Replays
mod Words
