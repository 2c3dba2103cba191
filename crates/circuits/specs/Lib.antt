pub mod Circuits
pub mod CircuitView
pub mod GateView
