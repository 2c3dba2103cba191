pub mod Exploring
pub mod Known
