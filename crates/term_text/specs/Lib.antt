pub mod TermText
pub mod WindowText
