-- Internal: only private functions of this crate use these words.
-- The walk through all numbers, which ranks them and tells which of them reach themselves.
use Rattle.std.specs.Prelude.{◌≡◌, ℕ, ◌+◌, ◌<◌, ◌≤◌, true, List, [], ◌∷◌, length, reverse, Some, None, Option, slice_get, ◌⊎◌, min}
use Rattle.std.specs.Option.{option_and_then, option_map_or}
use Rattle.base_library.specs.Numbers.{IsDistinct}
use Rattle.depth_first_search.specs.Graphs.{goes, ReachesFrom}
use Rattle.depth_first_search.specs.declared.searching.Step.{Step}
use Rattle.depth_first_search.specs.declared.searching.Search.{Search}

-- a number was given a place
abbrev pub IsMet : List (Option ℕ) → ℕ → Type 0
IsMet places i = (k : ℕ) × (slice_get places i ≡ Some (Some k))

abbrev pub IsOn : List Step → ℕ → Type 0
IsOn [] i = ⊥
IsOn (s ∷ path) i = (s.number ≡ i) ⊎ IsOn path i

-- the use at a place of a number that was met was looked at
abbrev pub IsLooked : List Step → ℕ → ℕ → Type 0
IsLooked [] i k = Unit {0}
IsLooked (s ∷ path) i k = (s.number ≡ i → s.left ≤ k) × IsLooked path i k

-- of the numbers held at these places the first may go to the second
abbrev pub MayGo : List Step → ℕ → ℕ → Type 0
MayGo [] a m = Unit {0}
MayGo (s ∷ path) a m = (s.place ≤ a → s.low ≤ m) × (a < s.place → MayGo path a m)

-- the last one of the path, which comes first, is replaced
abbrev pub lowered : ℕ → List Step → List Step
lowered low [] = []
lowered low (s ∷ path) = record s { low = min low s.low } ∷ path

-- the first number that was left that reaches itself, before and after one more is left
pub record IsTold (s : Step) (old new : Option ℕ) : Type 0 where
  pub same : s.place < s.low → old ≡ new
  pub first : s.low ≤ s.place → (j : ℕ) × (new ≡ Some j) × (j ≤ s.number) × ((j ≡ s.number) ⊎ (old ≡ Some j))
  pub before : (i : ℕ) → old ≡ Some i → (j : ℕ) × (new ≡ Some j) × (j ≤ i)

module _ (graph : List (List ℕ)) where
  abbrev pub use_at : ℕ → ℕ → Option ℕ
  use_at i k = option_and_then (λ js. slice_get js k) (slice_get graph i)

  abbrev pub uses_count : ℕ → ℕ
  uses_count i = option_map_or (λ js. length js) (slice_get graph i) 0

  abbrev pub ReachesOrIs : ℕ → ℕ → Type 0
  ReachesOrIs i j = (i ≡ j) ⊎ ReachesFrom graph i j

  abbrev pub LeadsTo : List Step → ℕ → Type 0
  LeadsTo [] i = Unit {0}
  LeadsTo (s ∷ path) i = goes graph s.number i ≡ true

  -- what is known of a number on the path and of those held after it, up to a bound
  pub record IsOnPath (held : List ℕ) (bound : ℕ) (s : Step) : Type 0 where
    pub within : s.place < bound
    pub few : s.left ≤ uses_count s.number
    pub here : slice_get held s.place ≡ Some s.number
    pub leads : (a i : ℕ) → a < bound → slice_get held a ≡ Some i → ReachesOrIs i s.number
    pub back : (j : ℕ) → s.low ≤ s.place → slice_get held s.low ≡ Some j → ReachesFrom graph s.number j

  -- the path, its last one first
  abbrev pub IsTower : List ℕ → ℕ → List Step → Type 0
  IsTower held bound [] = bound ≡ 0
  IsTower held bound (s ∷ path) = IsOnPath held bound s × IsTower held s.place path

  -- where each number stands that was met: a held one is only gone to from held ones
  pub record IsHolding (places : List (Option ℕ)) (held : List ℕ) (path : List Step) : Type 0 where
    pub sizes : length places ≡ length graph
    pub placed : (k i : ℕ) → slice_get held k ≡ Some i → slice_get places i ≡ Some (Some k)
    pub tower : IsTower held (length held) path
    pub seen : (i k j : ℕ) → IsMet places i → IsLooked path i k → use_at i k ≡ Some j →
        IsMet places j × ((m : ℕ) → slice_get held m ≡ Some j → (a : ℕ) × (slice_get held a ≡ Some i) × MayGo path a m)

  -- each goes only to earlier ones
  abbrev pub IsEarlier : List ℕ → Type 0
  IsEarlier done = (p i j : ℕ) → slice_get done p ≡ Some i → goes graph i j ≡ true → (q : ℕ) × (q < p) × (slice_get done q ≡ Some j)

  -- what is known of those that were left
  pub record IsLeaving (places : List (Option ℕ)) (path : List Step) (done : List ℕ) (least : Option ℕ) : Type 0 where
    pub all : (i : ℕ) → IsMet places i → IsOn path i ⊎ ((p : ℕ) × (slice_get done p ≡ Some i))
    pub only : (p i : ℕ) → slice_get done p ≡ Some i → IsMet places i × (IsOn path i → ⊥)
    pub once : IsDistinct done
    pub told : (i : ℕ) → least ≡ Some i → (i < length graph) × ReachesFrom graph i i
    pub first : (p i : ℕ) → slice_get done p ≡ Some i → ReachesFrom graph i i → (j : ℕ) × (least ≡ Some j) × (j ≤ i)
    pub earlier : least ≡ None → IsEarlier done

  pub record IsSearchAt (places : List (Option ℕ)) (held : List ℕ) (path : List Step) (done : List ℕ) (least : Option ℕ) : Type 0 where
    pub holds : IsHolding places held path
    pub leaves : IsLeaving places path done least

  abbrev pub IsSearch : Search → List Step → Type 0
  IsSearch w path = IsSearchAt w.places.items w.held.items path w.ranked.items w.least

  abbrev pub IsSearchOf : Search → Type 0
  IsSearchOf w = IsSearch w (reverse w.path.items)

  -- all numbers were left
  pub record IsWhole (w : Search) : Type 0 where
    pub search : IsSearchOf w
    pub path : w.path.items ≡ []
    pub met : (i : ℕ) → i < length graph → IsMet w.places.items i

-- how many steps are left at most
abbrev pub path_left : List Step → ℕ
path_left [] = 0
path_left (s ∷ path) = s.left + 1 + path_left path

abbrev pub new_left : List (List ℕ) → List (Option ℕ) → ℕ
new_left [] places = 0
new_left (r ∷ rows) [] = 0
new_left (r ∷ rows) (None ∷ places) = length r + 2 + new_left rows places
new_left (r ∷ rows) (Some k ∷ places) = new_left rows places

abbrev pub steps_left : List (List ℕ) → Search → ℕ
steps_left graph w = new_left graph w.places.items + path_left (reverse w.path.items)

-- the walk has gone on from one path to another
pub record HasGoneOn (graph : List (List ℕ)) (old : List (Option ℕ)) (from : List Step) (places : List (Option ℕ)) (held : List ℕ)
    (path : List Step) (done : List ℕ) (least : Option ℕ) : Type 0 where
  pub search : IsSearchAt graph places held path done least
  pub met : (i : ℕ) → IsMet old i → IsMet places i
  pub less : new_left graph places + path_left path < new_left graph old + path_left from

abbrev pub GoesOn : List (List ℕ) → List (Option ℕ) → List Step → Search → Type 0
GoesOn graph places path new =
    HasGoneOn graph places path new.places.items new.held.items (reverse new.path.items) new.ranked.items new.least

-- the walk from a start has come so far
pub record IsWalking (graph : List (List ℕ)) (start : ℕ) (old now : Search) : Type 0 where
  pub search : IsSearchOf graph now
  pub met : (i : ℕ) → IsMet old.places.items i → IsMet now.places.items i
  pub started : IsMet now.places.items start
