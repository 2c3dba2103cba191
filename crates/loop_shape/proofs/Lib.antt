pub mod Steps
pub mod Untils
pub mod Words
pub mod Fixpoints
mod Examples
