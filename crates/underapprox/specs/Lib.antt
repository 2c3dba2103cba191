pub mod LetterForm
pub mod LetterLasso
pub mod WholeUpdates
