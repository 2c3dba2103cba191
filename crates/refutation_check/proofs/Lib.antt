pub mod Accepting
mod Examples
pub mod LogLemmas
pub mod Marking
pub mod Naming
pub mod NumberLemmas
pub mod Refuting
