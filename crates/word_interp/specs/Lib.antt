pub mod Operations
pub mod Meaning
pub mod Words
pub mod internal
