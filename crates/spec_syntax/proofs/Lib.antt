mod Examples
pub mod TreeLemmas
pub mod ReadLemmas
pub mod Lift
pub mod MoreLevels
pub mod Written
pub mod ExactTerms
pub mod ExactPrefixes
pub mod ExactFormulas
pub mod ExactSections
pub mod ExactDeclarations
pub mod ReadLoops
pub mod FirstFaults
pub mod DeclarationLaws
