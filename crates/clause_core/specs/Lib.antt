pub mod Literals
pub mod Clauses
pub mod Propagation
pub mod internal
