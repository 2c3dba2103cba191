pub mod Reaching
pub mod Parts
pub mod PartNodes
