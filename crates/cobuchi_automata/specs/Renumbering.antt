-- Automata that are the same but for the numbers of their states and the order of their edges.
use Rattle.std.specs.Prelude.{◌≡◌, List, length, Some, slice_get, Contains}
use Rattle.cobuchi_automata.specs.Automata.{StateTree, EdgeTree}
use Rattle.cobuchi_automata.specs.Refusals.{Transition}

-- a numbered edge is an edge between these states themselves
pub record Joins (states : List StateTree) (e : EdgeTree) (t : Transition) : Type 0 where
  pub from : slice_get states e.from ≡ Some t.from
  pub care : e.care ≡ t.care
  pub want : e.want ≡ t.want
  pub to : slice_get states e.to ≡ Some t.to
  pub rejecting : e.rejecting ≡ t.rejecting

-- as many states and edges, and each state and each edge of the one is one of the other
pub record IsRenumbered (states : List StateTree) (edges : List EdgeTree) (more_states : List StateTree) (more_edges : List EdgeTree)
    : Type 0 where
  pub as_many_states : length states ≡ length more_states
  pub as_many_edges : length edges ≡ length more_edges
  pub same_states : (s : StateTree) → Contains states s → Contains more_states s
  pub same_edges : (e : EdgeTree) (t : Transition) → Contains edges e → Joins states e t
      → (d : EdgeTree) × Contains more_edges d × Joins more_states d t
