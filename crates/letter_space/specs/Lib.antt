pub mod SpaceTree
pub mod ControlledView
pub mod SpaceView
pub mod SpecSpace
pub mod Bits
pub mod Letters
pub mod Vectors
pub mod internal
