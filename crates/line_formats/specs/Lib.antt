pub mod Format
pub mod Leaves
pub mod Machine
pub mod internal
