pub mod internal
pub mod SameMeaning
