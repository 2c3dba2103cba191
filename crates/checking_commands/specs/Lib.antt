pub mod Check
pub mod Judged
pub mod Recheck
pub mod Run
pub mod RunFaults
pub mod RunParts
pub mod internal
