pub mod LoopShape
pub mod AlongLoop
