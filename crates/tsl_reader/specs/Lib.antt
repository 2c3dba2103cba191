pub mod Naming
pub mod Spells
pub mod ReadText
pub mod Expanding
pub mod UseView
pub mod Numbering
pub mod WrittenClashes
