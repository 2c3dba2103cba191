pub mod AcceptsReplies
pub mod AutomatonReplies
pub mod CircuitReplies
pub mod ExchangeStages
pub mod LetterCounts
