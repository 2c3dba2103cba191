pub mod Growing
mod Slots
pub mod Repeats
pub mod NeededNames
pub mod Locate
pub mod Located
pub mod OneCause
pub mod OneFault
