pub mod Texts
pub mod Located
pub mod Lacks
pub mod Ordered
pub mod Rules
