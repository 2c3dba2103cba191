mod Terminals
mod Entries
mod Exactness
mod WordExactness
mod ReadLoops
mod Faults
pub mod Readings
pub mod OneFault
