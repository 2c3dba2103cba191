pub mod HeldSpaces
pub mod RefusalExamples
pub mod RefusalLaws
pub mod Statuses
