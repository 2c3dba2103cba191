pub mod Spurious
pub mod Finding
pub mod internal
