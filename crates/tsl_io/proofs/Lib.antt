mod Examples
pub mod Told
pub mod Handed
pub mod Effects
