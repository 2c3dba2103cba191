pub mod Reading
pub mod ReadFaults
