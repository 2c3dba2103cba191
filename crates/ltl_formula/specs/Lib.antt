pub mod LtlTree
pub mod LtlOrder
pub mod Increasing
pub mod Dual
pub mod Cubes
pub mod LetterLoop
