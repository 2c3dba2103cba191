pub mod GeneratedSizes
pub mod SearchReasons
