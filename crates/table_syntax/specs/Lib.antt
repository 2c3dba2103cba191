pub mod Syntax
pub mod Grammar
pub mod Forms
pub mod View
pub mod internal
