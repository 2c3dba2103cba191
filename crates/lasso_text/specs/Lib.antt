pub mod LetterText
pub mod LoopView
pub mod FirstWrongLine
