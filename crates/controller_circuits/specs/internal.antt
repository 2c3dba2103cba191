pub mod Joining
pub mod Gates
pub mod Tables
