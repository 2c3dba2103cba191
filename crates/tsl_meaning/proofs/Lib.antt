pub mod Examples
mod WholeExample
pub mod LeafValues
pub mod Agree
pub mod OperatorPlanes
pub mod RunTruths
mod SharedAtoms
pub mod RunsOf
pub mod FirstRepetition
pub mod OneAction
pub mod Values
pub mod Walks
pub mod Runs
pub mod Repeats
pub mod BySignal
pub mod Closing
pub mod Equal
pub mod Naming
pub mod MoreNames
pub mod PromisedFormulas
