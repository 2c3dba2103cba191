pub mod Lines
pub mod ReaderView
