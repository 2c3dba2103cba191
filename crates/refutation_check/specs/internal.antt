pub mod Marks
pub mod Accepted
pub mod Reading
