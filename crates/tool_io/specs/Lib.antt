pub mod Ends
pub mod internal
pub mod Statuses
