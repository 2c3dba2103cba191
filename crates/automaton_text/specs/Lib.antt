pub mod BitNames
pub mod HoaText
pub mod HoaLines
pub mod HoaView
pub mod HoaRefusals
pub mod FirstWrongLine
pub mod internal
