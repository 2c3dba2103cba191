pub mod Costs
pub mod Standing
pub mod UseNumbers
pub mod SizeTables
