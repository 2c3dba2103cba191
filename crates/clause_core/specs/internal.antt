-- Words of private functions.
pub mod Parts
