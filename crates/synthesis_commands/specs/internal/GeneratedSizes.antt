-- Internal: only private functions of this crate use these words.
use Rattle.std.specs.Prelude.{ℕ}
use Rattle.refinement_loop.specs.declared.outcome.Sizes.{Sizes}

-- how far the search for a generated specification goes: as many states as its number, within the same bound, and no round
abbrev pub generated_sizes : ℕ → Sizes
generated_sizes n = record { states = n; bound = n; env_states = 2; env_bound = 2; depth = 2; rounds = 0; budget = 20000 }
