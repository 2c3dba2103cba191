pub mod HeadLines
pub mod RefusalPlaces
pub mod Refusals
pub mod Replies
