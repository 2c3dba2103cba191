pub mod Bits
pub mod OfController
pub mod Runs
pub mod internal
