pub mod CheckView
pub mod RunFaultPlaces
pub mod RunView
