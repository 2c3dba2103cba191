mod Gathering
pub mod Stepping
mod Brent
mod Comparing
mod Meeting
mod Recorded
