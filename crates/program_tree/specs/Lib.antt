pub mod Fits
pub mod NodeTree
pub mod ProgramTree
pub mod ProgramView
pub mod Walk
pub mod Writable
