pub mod ControllerTables
pub mod EnvironmentTables
pub mod RangeMembers
pub mod MovesListed
mod Examples
