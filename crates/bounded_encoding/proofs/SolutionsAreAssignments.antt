pub mod ExactlyOne
pub mod CubeBits
pub mod LetterChoices
pub mod MovesHeld
pub mod Demands
pub mod Decoded
pub mod Encoded
pub mod Readings
