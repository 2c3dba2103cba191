pub mod SearchNotes
pub mod Counting
pub mod Searching
mod Examples
pub mod LogNumbers
