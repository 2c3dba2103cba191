pub mod FirstUse
pub mod ListLengths
pub mod Marked
pub mod Named
