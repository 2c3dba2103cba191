-- Internal: only private functions of this crate use these words.
-- Moves and edges by the states that they leave, as pure values.
use Rattle.std.specs.Prelude.{◌≡◌, ℕ, ◌<◌, List, [], ◌∷◌, ◌++◌, map, unwrap_or, slice_get, slice_set, slice_index_or, length, Some, Contains, Vec}
use Rattle.std.specs.declared.alloc.Global.{Global}
use Rattle.cobuchi_automata.specs.Automata.{EdgeTree}
use Rattle.cobuchi_automata.specs.declared.automaton.Edge.{Edge}
use Rattle.machines.specs.declared.moves.Move.{Move}
use Rattle.machines.specs.Moves.{MoveTree}
use Rattle.machines.specs.MachineView.{move_tree}
use Rattle.annotation_check.specs.declared.listing.Listing.{Listing}
use Rattle.annotation_check.specs.Annotations.{edges_from}
use Rattle.annotation_check.specs.EdgeLists.{edge_lists}
use Rattle.annotation_check.specs.internal.Listings.{IsMoveListing}

-- the moves in each state of a machine, the edges from each state of an automaton, how many states these have, and a bound
pub record PairsTree : Type 0 where
  pub moves : ℕ → List MoveTree
  pub edges : ℕ → List EdgeTree
  pub machine_states : ℕ
  pub automaton_states : ℕ
  pub bound : ℕ

-- lists of moves, one for each state
abbrev pub move_lists : List (Vec Move Global) → List (List MoveTree)
move_lists table = map (λ ms. map move_tree ms.items) table

-- the moves, and the edges, that are listed for a state
abbrev pub moves_in : List (Vec Move Global) → ℕ → List MoveTree
moves_in table s = unwrap_or (slice_get (move_lists table) s) []

abbrev pub edges_in : List (Vec Edge Global) → ℕ → List EdgeTree
edges_in table q = unwrap_or (slice_get (edge_lists table) q) []

-- listings of the moves in each state
abbrev pub AreMoveListings : (ℕ → List MoveTree) → List Listing → ℕ → Type 0
AreMoveListings moves listings states = (length listings ≡ states)
    × ((s : ℕ) (l : Listing) → slice_get listings s ≡ Some l → IsMoveListing (moves s) l.letters.items l.next.items)

-- an edge more, in the list of the state that it leaves
abbrev pub with_edge : List (List EdgeTree) → EdgeTree → List (List EdgeTree)
with_edge lists e = slice_set lists e.from (slice_index_or lists e.from [] ++ e ∷ [])

abbrev pub pairs_with : List (Vec Move Global) → List (Vec Edge Global) → ℕ → ℕ → ℕ → PairsTree
pairs_with moves edges machine_states automaton_states bound = record {
  moves = moves_in moves;
  edges = edges_in edges;
  machine_states = machine_states;
  automaton_states = automaton_states;
  bound = bound;
}

-- the moves of a machine and the edges of an automaton as such a value
abbrev pub pairs_between : (ℕ → List MoveTree) → List EdgeTree → ℕ → ℕ → ℕ → PairsTree
pairs_between moves edges machine_states automaton_states bound = record {
  moves = moves;
  edges = edges_from edges;
  machine_states = machine_states;
  automaton_states = automaton_states;
  bound = bound;
}

-- there are states, and moves and edges go to states
pub record ArePairs (p : PairsTree) : Type 0 where
  pub machine_starts : 0 < p.machine_states
  pub automaton_starts : 0 < p.automaton_states
  pub moves_stay : (s : ℕ) (m : MoveTree) → Contains (p.moves s) m → m.next < p.machine_states
  pub edges_stay : (q : ℕ) (e : EdgeTree) → Contains (p.edges q) e → e.to < p.automaton_states
