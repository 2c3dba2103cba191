-- Words that only private functions use.
pub mod LeavesWithin
