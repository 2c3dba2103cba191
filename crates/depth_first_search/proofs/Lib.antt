pub mod GraphRows
pub mod Counted
pub mod SearchLemmas
