pub mod Divided
pub mod ReadTexts
pub mod GeneratedSpelled
