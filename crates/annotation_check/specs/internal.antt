-- Words that only private functions use.
pub mod Higher
pub mod Listings
pub mod Pairs
pub mod PairsView
pub mod Growth
pub mod Steps
