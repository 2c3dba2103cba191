-- What the private functions speak of.
pub mod Matches
