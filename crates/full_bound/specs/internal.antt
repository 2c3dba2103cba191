-- Words that only private functions and proofs use.
pub mod Graph
pub mod Pairs
pub mod PairTable
pub mod Search
pub mod Turning
