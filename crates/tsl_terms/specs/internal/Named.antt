-- Internal: only private functions of this crate use these words.
-- An entry of the map of names, as a name.
use Rattle.std.specs.Prelude.{ℕ, Vec}
use Rattle.std.specs.declared.alloc.Global.{Global}
use Rattle.tsl_terms.specs.declared.names.Meaning.{Meaning}
use Rattle.tsl_terms.specs.Name.{Name}

abbrev pub named : (Vec ℕ Global × Meaning) → Name
named entry = record { text = entry.0.items; kind = entry.1.kind; arity = entry.1.arity }
