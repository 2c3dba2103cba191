pub mod ProgramText
pub mod Reading
pub mod Rules
pub mod Uses
pub mod internal
