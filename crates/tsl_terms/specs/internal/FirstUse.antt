-- Internal: only private functions of this crate use these words.
use Rattle.std.specs.Prelude.{ℕ, Bool, false, not, List, slice_get, Option, option_and_then}
use Rattle.std.specs.Option.{option_map_or}
use Rattle.tsl_terms.specs.Name.{Name, number_of}

-- the name with this text
abbrev pub name_with : List Name → List ℕ → Option Name
name_with names text = option_and_then (slice_get names) (number_of names text)

-- whether the names have the text of a use and are not like it
abbrev pub differs_from : (Name → Name → Bool) → List Name → Name → Bool
differs_from alike names usage = option_map_or (λ n. not (alike n usage)) (name_with names usage.text) false
