pub mod EnvironmentExamples
pub mod Pieces
pub mod Picks
