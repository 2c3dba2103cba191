pub mod FormatLaws
pub mod LeafLaws
pub mod MachineLaws
pub mod LastLines
mod Examples
