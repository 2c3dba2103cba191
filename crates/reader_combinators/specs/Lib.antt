pub mod Readers
pub mod Exact
