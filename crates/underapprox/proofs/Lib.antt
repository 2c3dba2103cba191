pub mod Agreement
pub mod Booleans
pub mod Happenings
mod Examples
