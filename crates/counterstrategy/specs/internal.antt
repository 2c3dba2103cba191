pub mod DualAsking
pub mod DualReading
