pub mod EnvironmentQuestion
pub mod DualVariables
pub mod DualEncoding
pub mod DualDecoding
pub mod DualAnswers
pub mod internal
