pub mod Truths
pub mod GateLemmas
pub mod DigitLemmas
pub mod TableLemmas
pub mod CircuitLemmas
pub mod WholeCircuits
pub mod RunLemmas
