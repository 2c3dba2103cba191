pub mod CnfText
pub mod Pieces
pub mod internal
