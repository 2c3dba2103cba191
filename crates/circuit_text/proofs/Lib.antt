pub mod CircuitLines
pub mod ReadCircuits
pub mod WrittenCircuits
pub mod FirstWrongLine
mod Examples
