-- Internal: only private functions of this crate use these words.
-- What is read off an assignment of an environment from an index on.
use Rattle.std.specs.Prelude.{ℕ, ◌+◌, ◌*◌, Bool, List, map}
use Rattle.bounded_encoding.specs.ClauseLists.{below}
use Rattle.bounded_encoding.specs.Reading.{next_from}
use Rattle.counterstrategy.specs.DualDecoding.{bits_passing}

-- what is true in a state, where each has so many predicate terms, and in each of so many states
abbrev pub truths_at : (ℕ → Bool) → ℕ → ℕ → ℕ
truths_at assignment tests s = bits_passing (λ b. assignment (s * tests + b)) tests

abbrev pub truths_from : (ℕ → Bool) → ℕ → ℕ → List ℕ
truths_from assignment tests states = map (truths_at assignment tests) (below states)

-- so many successors, where their variables begin at an index and each has one for each state
abbrev pub successor_numbered : (ℕ → Bool) → ℕ → ℕ → ℕ → ℕ
successor_numbered assignment base states k = next_from assignment (base + k * states) states

abbrev pub successors_from : (ℕ → Bool) → ℕ → ℕ → ℕ → List ℕ
successors_from assignment base states count = map (successor_numbered assignment base states) (below count)
