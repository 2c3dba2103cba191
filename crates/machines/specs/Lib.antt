pub mod MachineTree
pub mod MachineView
pub mod Moves
pub mod Visits
pub mod Rounds
