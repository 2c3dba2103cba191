-- Graphs: for each number those that it goes to.
use Rattle.std.specs.Prelude.{◌≡◌, ℕ, ◌<◌, Bool, true, false, List, length, map, Some, Vec, slice_get}
use Rattle.std.specs.Option.{option_map_or}
use Rattle.std.specs.declared.alloc.Global.{Global}
use Rattle.base_library.specs.Numbers.{is_among, IsDistinct}
use Rattle.depth_first_search.specs.Reaching.{Reaches, Using}

abbrev pub graph_of : List (Vec ℕ Global) → List (List ℕ)
graph_of rows = map (λ r. r.items) rows

module _ (graph : List (List ℕ)) where
  abbrev pub goes : ℕ → ℕ → Bool
  goes i j = option_map_or (λ js. is_among js j) (slice_get graph i) false

  -- each goes to numbers of the graph alone
  abbrev pub IsGraph : Type 0
  IsGraph = (i j : ℕ) → goes i j ≡ true → j < length graph

  abbrev pub ReachesFrom : ℕ → ℕ → Type 0
  ReachesFrom i j = Reaches (Using goes) i j

  -- some number reaches itself
  abbrev pub HasCycle : Type 0
  HasCycle = (i : ℕ) × ReachesFrom i i

  -- all numbers of the graph, each once, in an order in which each goes only to earlier ones
  pub record IsOrder (order : List ℕ) : Type 0 where
    pub all : (i : ℕ) → i < length graph → is_among order i ≡ true
    pub once : IsDistinct order
    pub count : length order ≡ length graph
    pub within : (i : ℕ) → is_among order i ≡ true → i < length graph
    pub earlier : (p i j : ℕ) → slice_get order p ≡ Some i → goes i j ≡ true → (q : ℕ) × (q < p) × (slice_get order q ≡ Some j)

  -- the number reaches itself, and none before it does
  pub record IsFirstOnCycle (number : ℕ) : Type 0 where
    pub within : number < length graph
    pub reaches : ReachesFrom number number
    pub first : (i : ℕ) → i < number → ReachesFrom i i → ⊥
