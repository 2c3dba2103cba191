pub mod ProgramBits
pub mod ControllerOf
pub mod RunLetters
pub mod DecisionTree
pub mod Flow
pub mod internal
