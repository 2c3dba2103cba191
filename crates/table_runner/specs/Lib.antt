pub mod Running
pub mod Standings
pub mod internal
