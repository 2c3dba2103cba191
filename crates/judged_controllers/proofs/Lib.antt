pub mod JudgedProgramsMeet
pub mod JudgedProgramsRealize
pub mod SpecSignals
pub mod UsableSignals
pub mod WritablePrograms
