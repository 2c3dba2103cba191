pub mod Told
pub mod Handed
pub mod Faults
pub mod Memory
pub mod Standard
pub mod Effects
