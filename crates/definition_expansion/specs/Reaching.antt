-- What reaches what through uses.
pub use Rattle.depth_first_search.specs.Reaching.{Reaches, one, more, Among, first, later, UsesOne, Using}
