-- Words that only private functions of this crate use.
pub mod Columns
pub mod Members
pub mod SharedAtoms
