pub mod Tables
pub mod Watching
