pub mod Accepts
pub mod Automaton
pub mod Circuit
pub mod Letters
