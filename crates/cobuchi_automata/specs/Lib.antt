pub mod Counters
pub mod Automata
pub mod Paths
pub mod Edges
pub mod Refusals
pub mod Renumbering
pub mod internal
