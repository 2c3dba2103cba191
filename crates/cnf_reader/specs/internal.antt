pub mod Told
pub mod RestOfText
pub mod Stages
pub mod Reading
pub mod Places
