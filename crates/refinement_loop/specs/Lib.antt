pub mod Questions
pub mod Chains
pub mod Outcomes
pub mod Refusals
pub mod internal
