pub mod Failing
pub mod FullBound
pub mod LoopView
pub mod internal
