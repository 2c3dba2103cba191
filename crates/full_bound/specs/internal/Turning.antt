-- Internal: only private functions and proofs of this crate use these words.
-- What is read back from a search, and turns through a rejecting step as lists of letters.
use Rattle.std.specs.Prelude.{◌≡◌, ℕ, Bool, true, List, map, Some, slice_get, Contains}
use Rattle.full_bound.specs.declared.search.Step.{Step}
use Rattle.full_bound.specs.declared.search.Arrival.{Arrival}
use Rattle.full_bound.specs.internal.Graph.{IsWalk, MarkedTurn}
use Rattle.full_bound.specs.internal.Search.{IsSearched}

abbrev pub step_to : Step → ℕ
step_to s = s.to

abbrev pub step_rejects : Step → Bool
step_rejects s = s.rejecting

abbrev pub letters_of : List Step → List ℕ
letters_of ss = map (λ s. s.letter) ss

module _ (steps : ℕ → List Step) where
  abbrev pub Walk : ℕ → List Step → ℕ → Type 0
  Walk = IsWalk steps step_to step_rejects

  -- a walk between two nodes over these letters
  abbrev pub IsSpelled : ℕ → ℕ → List ℕ → Type 0
  IsSpelled p r letters = (ss : List Step) × Walk p ss r × (letters_of ss ≡ letters)

  abbrev pub Turn : Type 0
  Turn = MarkedTurn steps step_to step_rejects

  -- a turn with these letters
  abbrev pub IsTurn : List ℕ → List ℕ → Type 0
  IsTurn stem turn = (t : Turn) × (letters_of t.stem ≡ stem) × (letters_of t.turn ≡ turn)

  -- no walk from where a rejecting step from a node leads goes back to it
  abbrev pub NeverBack : ℕ → Step → Type 0
  NeverBack p s = s.rejecting ≡ true → (ss : List Step) → Walk s.to ss p → ⊥

-- the first arrival is at a node
abbrev pub IsFirst : List Arrival → ℕ → Type 0
IsFirst arrivals p = (a : Arrival) × (slice_get arrivals 0 ≡ Some a) × (a.node ≡ p)

-- a rejecting step of a node, and a search from where it leads that finds the node
abbrev pub IsReturn : (ℕ → List Step) → ℕ → ℕ → Step → List Bool → List Arrival → Type 0
IsReturn steps nodes p s flags arrivals =
    Contains (steps p) s × (s.rejecting ≡ true) × IsSearched steps nodes flags arrivals × (slice_get flags p ≡ Some true)
    × IsFirst arrivals s.to
