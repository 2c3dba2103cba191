pub mod Accepts
pub mod internal
