pub mod Bounds
pub mod LetterBits
pub mod Once
pub mod Places
pub mod SpecSpaces
pub mod VectorPicks
pub mod PicksLeft
pub mod FewVectors
mod Examples
