pub mod LineText
pub mod Listing
pub mod ListingFault
pub mod ListingTree
pub mod internal
