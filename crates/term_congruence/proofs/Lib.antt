pub mod ShapeLemmas
pub mod Labels
pub mod JoinLemmas
pub mod FoundLemmas
pub mod TreeLemmas
pub mod StandingLemmas
pub mod Listing
pub mod Cells
pub mod PairsMade
pub mod Tables
pub mod SameLabels
pub mod CellValues
pub mod UnfoldingsAreValues
pub mod EqualImages
pub mod EqualWindows
pub mod CongruentWindows
mod Examples
