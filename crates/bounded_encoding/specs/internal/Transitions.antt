-- Internal: only private functions of this crate use these words.
-- Transitions of a machine in range, and the literals of their clauses.
use Rattle.std.specs.Prelude.{ℕ, ◌≡◌, ◌<◌, ◌≤◌, ◌+◌, ◌^◌, false, List, [], ◌∷◌, ◌++◌}
use Rattle.clause_core.specs.Literals.{Lit}
use Rattle.clause_core.specs.Clauses.{in_order, has_pair}
use Rattle.cobuchi_automata.specs.Edges.{edge_tree}
use Rattle.bounded_encoding.specs.Frames.{FrameTree, next_at, number_at}
use Rattle.bounded_encoding.specs.SimpleClauses.{no_at}
use Rattle.bounded_encoding.specs.Sides.{differing, clause_along, clauses_to, clauses_from}
use Rattle.bounded_encoding.specs.declared.edge_literals.Pairs.{Pairs}
use Rattle.bounded_encoding.specs.declared.edge_literals.Transition.{Transition}

-- its state, its row, the states of its edge and its own variables are in range
pub record IsWithin (f : FrameTree) (transition : Transition) : Type 0 where
  pub state : transition.state < f.states
  pub row : transition.row < f.rows
  pub from : transition.edge.from < f.automaton_states
  pub to : transition.edge.to < f.automaton_states
  pub own : transition.base + f.bits ≤ f.own

-- the literals that are true where the machine does not do as its edge asks
abbrev pub unless : FrameTree → Transition → List Lit
unless f transition = differing transition.base f.first_bit f.bits (edge_tree transition.edge)

-- the literals that its clauses to a state share
abbrev pub shared : FrameTree → Transition → ℕ → List Lit
shared f transition t = no_at (next_at f transition.state transition.row t) ∷ unless f transition

-- its clause to a state and for a number, its clauses to a state, and all of its clauses
abbrev pub clause_for : FrameTree → Transition → ℕ → ℕ → List Lit
clause_for f transition t i = clause_along f (unless f transition) transition.state (edge_tree transition.edge) transition.row t i

abbrev pub clauses_for : FrameTree → Transition → ℕ → List (List Lit)
clauses_for f transition t = clauses_to f (unless f transition) transition.state (edge_tree transition.edge) transition.row t

abbrev pub clauses_of_transition : FrameTree → Transition → List (List Lit)
clauses_of_transition f transition = clauses_from f (unless f transition) transition.state (edge_tree transition.edge) transition.row

-- none of its clauses to a state has a literal and its negation
abbrev pub AreUnpaired : FrameTree → Transition → ℕ → Type 0
AreUnpaired f transition t = (i : ℕ) → i < f.bound + 1 → has_pair (in_order (clause_for f transition t i)) ≡ false

-- the literal of the variable that is so many further on
abbrev pub moved : ℕ → Lit → Lit
moved base l = record { index = base + l.index; positive = l.positive }

-- where the numbers begin of the pairs that a transition to a state leaves and reaches
pub record ArePairs (f : FrameTree) (transition : Transition) (t : ℕ) (pairs : Pairs) : Type 0 where
  pub left : (i : ℕ) → pairs.left + i ≡ number_at f transition.state transition.edge.from i
  pub reached : (i : ℕ) → pairs.reached + i ≡ number_at f t transition.edge.to i
  pub room_left : pairs.left + f.bound + 1 < 2 ^ 31
  pub room_reached : pairs.reached + f.bound + 1 < 2 ^ 31

-- a list with one literal more before a middle, and one behind
pub record IsAround (middle literals : List Lit) : Type 0 where
  pub first : Lit
  pub last : Lit
  pub is : literals ≡ first ∷ (middle ++ last ∷ [])

-- a list with two literals more before a middle, and one behind
pub record IsRoom (middle literals : List Lit) : Type 0 where
  pub second : Lit
  pub around : IsAround (second ∷ middle) literals
