-- Words that only private functions and proofs use.
pub mod Graph
pub mod PackedMarks
pub mod Product
pub mod Search
