-- Internal: only private functions and proofs of this crate use these words.
-- What a search over the steps of nodes has found: flags of the nodes, and how each was first arrived at.
use Rattle.std.specs.Prelude.{◌≡◌, ℕ, ◌+◌, ◌*◌, ◌<◌, ◌≤◌, Bool, true, cond, List, [], ◌∷◌, ◌++◌, map, length, Some, slice_get, slice_set}
use Rattle.std.specs.Prelude.{slice_index_or, unwrap_or, Contains, Vec, ◌⊎◌}
use Rattle.std.specs.declared.alloc.Global.{Global}
use Rattle.full_bound.specs.declared.search.Step.{Step}
use Rattle.full_bound.specs.declared.search.Arrival.{Arrival}

-- the steps from a node
abbrev pub step_lists : List (Vec Step Global) → List (List Step)
step_lists table = map (λ steps. steps.items) table

abbrev pub steps_from : List (Vec Step Global) → ℕ → List Step
steps_from table p = unwrap_or (slice_get (step_lists table) p) []

-- the flags and the arrivals after a step to a node
abbrev pub flags_with : List Bool → ℕ → List Bool
flags_with flags n = cond (slice_index_or flags n true) flags (slice_set flags n true)

abbrev pub arrivals_with : List Bool → List Arrival → Arrival → List Arrival
arrivals_with flags arrivals a = cond (slice_index_or flags a.node true) arrivals (arrivals ++ a ∷ [])

-- how many flags are not set
abbrev pub unset : List Bool → ℕ
unset [] = 0
unset (b ∷ bs) = cond b 0 1 + unset bs

abbrev pub search_left : List Bool → List Arrival → ℕ
search_left flags arrivals = 2 * unset flags + length arrivals

module _ (steps : ℕ → List Step) (nodes : ℕ) where
  -- an arrival is the first one, or by a step from an earlier one
  abbrev pub Comes : List Arrival → ℕ → Arrival → Type 0
  Comes arrivals i a =
      (i ≡ 0)
      ⊎ ((b : Arrival) × (s : Step) × (a.previous < i) × (slice_get arrivals a.previous ≡ Some b) × Contains (steps b.node) s
      × (s.to ≡ a.node) × (s.letter ≡ a.letter))

  pub record IsSearch (flags : List Bool) (arrivals : List Arrival) : Type 0 where
    pub size : length flags ≡ nodes
    pub flagged : (i : ℕ) (a : Arrival) → slice_get arrivals i ≡ Some a → slice_get flags a.node ≡ Some true
    pub arrives : (p : ℕ) → slice_get flags p ≡ Some true → (i : ℕ) × (a : Arrival) × (slice_get arrivals i ≡ Some a) × (a.node ≡ p)
    pub comes : (i : ℕ) (a : Arrival) → slice_get arrivals i ≡ Some a → Comes arrivals i a

  -- the steps from the first arrivals lead to flagged nodes
  abbrev pub IsVisited : List Bool → List Arrival → ℕ → Type 0
  IsVisited flags arrivals n = (i : ℕ) (a : Arrival) → i < n → slice_get arrivals i ≡ Some a → (s : Step) → Contains (steps a.node) s
      → slice_get flags s.to ≡ Some true

  -- a search that went on
  pub record GoesOn (old_flags : List Bool) (old_arrivals : List Arrival) (flags : List Bool) (arrivals : List Arrival) : Type 0 where
    pub search : IsSearch flags arrivals
    pub flags_stay : (p : ℕ) → slice_get old_flags p ≡ Some true → slice_get flags p ≡ Some true
    pub arrivals_stay : (i : ℕ) (a : Arrival) → slice_get old_arrivals i ≡ Some a → slice_get arrivals i ≡ Some a
    pub less : search_left flags arrivals ≤ search_left old_flags old_arrivals

  -- the whole search: what steps lead to from a flagged node is flagged
  pub record IsSearched (flags : List Bool) (arrivals : List Arrival) : Type 0 where
    pub search : IsSearch flags arrivals
    pub closed : (p : ℕ) (s : Step) → slice_get flags p ≡ Some true → Contains (steps p) s → slice_get flags s.to ≡ Some true
