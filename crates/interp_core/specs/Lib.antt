pub mod FreeMeanings
pub mod FreeView
pub mod Image
pub mod LeafValue
pub mod Wheel
pub mod internal
