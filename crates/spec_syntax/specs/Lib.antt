pub mod Syntax
pub mod Grammar
pub mod Written
pub mod Levels
pub mod Reading
pub mod Texts
pub mod SyntaxView
pub mod internal
