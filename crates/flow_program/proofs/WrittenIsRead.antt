pub mod Runs
pub mod ListingOfTerms
pub mod ListingOfLines
pub mod ListingOfProgram
