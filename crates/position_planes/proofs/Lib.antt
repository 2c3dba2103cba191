mod CarryLemmas
mod WordLemmas
mod PositionLemmas
pub mod PlaneLemmas
pub mod TruthWords
