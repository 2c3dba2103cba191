pub mod Ends
pub mod internal
pub mod Numbers
pub mod Outcome
pub mod Promise
pub mod Replies
pub mod Requests
pub mod Values
