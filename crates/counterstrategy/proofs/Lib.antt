pub mod PassingBits
pub mod HighBits
pub mod DualNumbers
pub mod EnvironmentDecoded
pub mod EnvironmentEncoded
pub mod DualRefuted
pub mod VectorLetters
pub mod DualSizes
pub mod ServedEnvironments
pub mod DualOver
pub mod DualReadings
mod Examples
