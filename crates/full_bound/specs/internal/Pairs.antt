-- Internal: only private functions and proofs of this crate use these words.
-- Steps between pairs of a machine's state and an automaton's state, which have numbers.
use Rattle.std.specs.Prelude.{ℕ, ◌+◌, ◌*◌, ◌/◌, ◌%◌, Bool, cond, List, [], ◌∷◌, ◌++◌}
use Rattle.ltl_formula.specs.Cubes.{cube_matches}
use Rattle.cobuchi_automata.specs.Automata.{EdgeTree}
use Rattle.machines.specs.Moves.{MoveTree}
use Rattle.annotation_check.specs.Annotations.{edges_from}

-- a move of the machine and an edge of the automaton that its letter matches
pub record PairStep : Type 0 where
  pub move : MoveTree
  pub edge : EdgeTree

-- the steps along an edge by some moves
abbrev pub edge_steps : EdgeTree → List MoveTree → List PairStep
edge_steps e [] = []
edge_steps e (m ∷ ms) = cond (cube_matches e.care e.want m.letter) (record { move = m; edge = e } ∷ edge_steps e ms) (edge_steps e ms)

-- the steps along some edges
abbrev pub steps_between : List MoveTree → List EdgeTree → List PairStep
steps_between ms [] = []
steps_between ms (e ∷ es) = edge_steps e ms ++ steps_between ms es

-- the steps from the pair of states s and q, which has the number s * states + q
abbrev pub pair_steps : ℕ → (ℕ → List MoveTree) → List EdgeTree → ℕ → List PairStep
pair_steps states moves edges p = steps_between (moves (p / states)) (edges_from edges (p % states))

-- the pair that a step leads to, and whether its edge is rejecting
abbrev pub pair_after : ℕ → PairStep → ℕ
pair_after states s = s.move.next * states + s.edge.to

abbrev pub is_rejecting : PairStep → Bool
is_rejecting s = s.edge.rejecting
