pub mod Sets
pub mod Parts
pub mod FirstFound
pub mod Semantics
mod Examples
