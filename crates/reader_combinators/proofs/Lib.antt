mod Examples
pub mod Runs
pub mod Then
pub mod Terminals
pub mod Levels
pub mod Iterates
pub mod Lists
pub mod Whole
pub mod FirstFaults
pub mod Taken
pub mod Sequels
pub mod WholeTexts
pub mod MemberLoops
