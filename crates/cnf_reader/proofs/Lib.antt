pub mod CnfLemmas
mod Examples
pub mod StageLemmas
pub mod RestLemmas
pub mod PlaceLemmas
pub mod WalkLemmas
