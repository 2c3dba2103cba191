-- What a reader or a writer of the standard library is as a source or a sink.
use Rattle.std.specs.Prelude.{ℕ}

-- the reader or the writer, and how often it failed
pub record Adapted (T : Type 0) : Type 0 where
  pub inner : T
  pub faults : ℕ
