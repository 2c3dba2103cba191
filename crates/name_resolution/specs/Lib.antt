pub mod Heads
pub mod Occurrences
pub mod Faults
pub mod WrittenNames
pub mod WellDeclared
pub mod OccurrenceView
pub mod internal
