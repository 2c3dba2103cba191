pub mod Begins
pub mod Fronts
pub mod Held
pub mod Spelling
