-- Internal: only private functions of this crate use these words.
use Rattle.std.specs.Prelude.{ℕ, ◌≤◌, List, length}
use Rattle.tsl_reader.specs.declared.SpecError.{SpecError}
use Rattle.tsl_reader.specs.declared.SpecError.TheVariants.{Byte, OpenComment, Form, Deep, Defined, Cycle, Kind, Arity}
use Rattle.tsl_reader.specs.declared.SpecError.TheVariants.{DeepUse, Nodes, NoMemory}

-- the offsets of a refusal lie in the text
abbrev pub StandsIn : List ℕ → SpecError → Type 0
StandsIn text (Byte at) = at ≤ length text
StandsIn text (OpenComment at) = at ≤ length text
StandsIn text (Form at) = at ≤ length text
StandsIn text (Deep at) = at ≤ length text
StandsIn text (Defined start end) = (start ≤ end) × (end ≤ length text)
StandsIn text (Cycle start end) = (start ≤ end) × (end ≤ length text)
StandsIn text (Kind start end) = (start ≤ end) × (end ≤ length text)
StandsIn text (Arity start end) = (start ≤ end) × (end ≤ length text)
StandsIn text (DeepUse start end) = (start ≤ end) × (end ≤ length text)
StandsIn text Nodes = Unit {0}
StandsIn text NoMemory = Unit {0}
