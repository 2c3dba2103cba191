pub mod Gen
pub mod Prove
pub mod QuestionRanges
pub mod Synth
pub mod internal
