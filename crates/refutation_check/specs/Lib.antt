pub mod Numbers
pub mod DataLines
pub mod LogText
pub mod LogNumbers
pub mod Checking
pub mod internal
