pub mod BitsCause
