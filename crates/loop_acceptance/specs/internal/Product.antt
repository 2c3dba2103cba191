-- Internal: only private functions and proofs of this crate use these words.
-- Pairs of a position of a loop and a state of an automaton as nodes: that of position i and state q has the number i * states + q.
use Rattle.std.specs.Prelude.{◌≡◌, ℕ, ◌+◌, ◌*◌, ◌/◌, ◌%◌, ◌<◌, ◌≤◌, ◌^◌, ◌==◌}
use Rattle.std.specs.Prelude.{true, Bool, nat_lt, cond, List, [], ◌∷◌, length, map, if◌then◌else◌, Option, Some, None}
use Rattle.std.specs.Prelude.{option_and_then, slice_get, Contains, Vec}
use Rattle.std.specs.List.{list_all}
use Rattle.std.specs.declared.alloc.Global.{Global}
use Rattle.ltl_formula.specs.Cubes.{cube_matches}
use Rattle.cobuchi_automata.specs.declared.automaton.Edge.{Edge}
use Rattle.loop_acceptance.specs.declared.product.Step.{Step}
use Rattle.loop_acceptance.specs.declared.product.Product.{Product}

-- edges in lists by the state that they leave
abbrev pub row_lists : List (Vec Edge Global) → List (List Edge)
row_lists rows = map (λ (row : Vec Edge Global). row.items) rows

-- the edge of a state at a place
abbrev pub edge_at : List (List Edge) → ℕ → ℕ → Option Edge
edge_at rows q k = option_and_then (λ row. slice_get row k) (slice_get rows q)

-- how many edges there are
abbrev pub row_edges : List (List Edge) → ℕ
row_edges [] = 0
row_edges (row ∷ rows) = length row + row_edges rows

-- the number of the edges of a state has 32 bits
abbrev pub is_short : List Edge → Bool
is_short row = nat_lt (length row) (2 ^ 32)

-- the position after a position
abbrev pub position_after : List ℕ → ℕ → ℕ → ℕ
position_after letters back i = if (i + 1) == length letters then back else i + 1

-- the step by an edge from a position with a letter, if the letter matches
abbrev pub step_by : ℕ → ℕ → Edge → ℕ → Option Step
step_by states next e letter = cond (cube_matches e.cube.care e.cube.want letter)
    (Some (record { to = next * states + e.to; rejecting = e.rejecting })) None

-- the step of a node at a place
abbrev pub product_step : ℕ → List (List Edge) → List ℕ → ℕ → ℕ → ℕ → Option Step
product_step states rows letters back p k =
    option_and_then (λ e. option_and_then (step_by states (position_after letters back (p / states)) e) (slice_get letters (p / states)))
    (edge_at rows (p % states) k)

-- of a product as it lies in memory
abbrev pub edge_rows_of : Product → List (List Edge)
edge_rows_of product = row_lists product.rows.now

abbrev pub steps_in : Product → ℕ → ℕ → Option Step
steps_in product = product_step (length product.rows.now) (edge_rows_of product) product.letters.now product.back

abbrev pub nodes_of : Product → ℕ
nodes_of product = length product.letters.now * length product.rows.now

-- there is a state, the states are counted, the last letter goes on to one of the letters, edges lead to states, and nodes and their steps
-- have numbers of 32 bits
pub record IsProduct (product : Product) : Type 0 where
  pub starts : 1 ≤ length product.rows.now
  pub counted : product.pairing.states ≡ length product.rows.now
  pub goes_on : product.back < length product.letters.now
  pub fits : nodes_of product ≤ 2 ^ 32
  pub short : list_all is_short (edge_rows_of product) ≡ true
  pub stays : (q k : ℕ) (e : Edge) → edge_at (edge_rows_of product) q k ≡ Some e → e.to < length product.rows.now

-- the lists have these edges, each with the state that it leaves
pub record AreEdgeRows (rows : List (List Edge)) (edges : List Edge) : Type 0 where
  pub are_edges : (q k : ℕ) (e : Edge) → edge_at rows q k ≡ Some e → Contains edges e × (e.from ≡ q)
  pub have_edges : (i : ℕ) (e : Edge) → slice_get edges i ≡ Some e → (k : ℕ) × (edge_at rows e.from k ≡ Some e)
