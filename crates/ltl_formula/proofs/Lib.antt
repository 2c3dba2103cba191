pub mod DerivedOrder
pub mod DualLemmas
pub mod IncreasingLemmas
pub mod ListLemmas
pub mod LtlOrderLaws
pub mod Places
mod Examples
