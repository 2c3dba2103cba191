pub mod Counts
pub mod NumberBits
pub mod Rounds
pub mod Queueing
pub mod Deciding
pub mod HintLists
pub mod SeenEntries
pub mod Hints
pub mod DatabaseNumbers
pub mod LogHints
pub mod Stages
pub mod Noting
pub mod LearntClauseLemmas
pub mod Analysing
mod Examples
