mod Tabled
mod Given
mod Checked
mod Facts
mod Refusals
mod OneReading
mod Examples
mod OneCause
pub mod Reduced
