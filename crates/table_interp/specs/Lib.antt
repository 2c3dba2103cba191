pub mod Tables
pub mod Inputs
pub mod Meaning
pub mod internal
