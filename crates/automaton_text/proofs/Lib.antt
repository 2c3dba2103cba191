pub mod BitLines
pub mod BodyLines
pub mod Found
pub mod HoaGroups
pub mod HoaKept
pub mod HoaLabels
pub mod HoaLive
pub mod HoaSteps
pub mod LabelBits
pub mod LiteralLines
pub mod Reading
pub mod WrittenRead
pub mod Writing
mod FirstLines
