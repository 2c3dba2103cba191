pub mod Besides
pub mod FreeLists
pub mod ImagesAreValues
pub mod ImagesThere
pub mod Pushed
pub mod Rows
pub mod Total
