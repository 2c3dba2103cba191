pub mod Numbering
pub mod UseView
pub mod EqualityKeys
