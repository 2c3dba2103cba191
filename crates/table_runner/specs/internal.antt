-- What private functions say.
pub mod Returns
pub mod Copied
