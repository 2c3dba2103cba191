pub mod Words
pub mod CnfRead
pub mod LogRead
pub mod Parted
pub mod Readable
