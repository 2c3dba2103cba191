pub mod Ending
pub mod Replying
