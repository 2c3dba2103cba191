pub mod LetterLines
pub mod LoopLaws
pub mod FirstLines
