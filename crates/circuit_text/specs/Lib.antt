pub mod CircuitText
pub mod internal
