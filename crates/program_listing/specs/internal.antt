pub mod LineOrder
pub mod LineReading
pub mod NamesStand
