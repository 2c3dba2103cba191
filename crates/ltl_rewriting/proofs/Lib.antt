pub mod MergedTruths
pub mod PartedMembers
pub mod SameParts
