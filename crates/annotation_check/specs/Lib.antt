pub mod Annotations
pub mod EdgeLists
pub mod internal
