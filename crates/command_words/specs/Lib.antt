pub mod Arguments
pub mod Bounds
pub mod Commands
pub mod internal
