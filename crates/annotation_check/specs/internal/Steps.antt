-- Internal: only private functions of this crate use these words.
-- Steps from a pair of states: what its moves and edges make together, where the letter of the one matches the cube of the other.
use Rattle.std.specs.Prelude.{◌≡◌, ℕ, ◌+◌, ◌<◌, Bool, true, false, cond, List, slice_get, slice_index_or, Contains, ◌↔◌}
use Rattle.std.specs.Option.{option_map_or}
use Rattle.ltl_formula.specs.Cubes.{cube_matches}
use Rattle.cobuchi_automata.specs.Automata.{EdgeTree}
use Rattle.machines.specs.Moves.{MoveTree}
use Rattle.lane_planes.specs.Planes.{has_bit, is_match}
use Rattle.annotation_check.specs.declared.stepping.Step.{Step}

-- the pair after a move and an edge, and the edge's mark
abbrev pub step_between : MoveTree → EdgeTree → Step
step_between m e = record { machine_state = m.next; automaton_state = e.to; rejecting = e.rejecting }

-- what the pair after a step has at least
abbrev pub after_step : ℕ → Step → ℕ
after_step n t = n + cond t.rejecting 1 0

-- a step of some move and some edge whose cube the letter matches
pub record IsStepOf (moves : List MoveTree) (edges : List EdgeTree) (t : Step) : Type 0 where
  pub move : MoveTree
  pub edge : EdgeTree
  pub moved : Contains moves move
  pub leaves : Contains edges edge
  pub matches : cube_matches edge.care edge.want move.letter ≡ true
  pub is : t ≡ step_between move edge

-- all steps of moves and edges, and no other
abbrev pub AreSteps : List MoveTree → List EdgeTree → List Step → Type 0
AreSteps moves edges steps = (t : Step) → Contains steps t ↔ IsStepOf moves edges t

-- the bits of a plane are those of the letters that have the wanted ones among the bits that are cared for
abbrev pub IsMatched : List ℕ → ℕ → ℕ → List ℕ → Type 0
IsMatched letters care want plane = (i : ℕ) → has_bit plane i ≡ option_map_or (is_match care want) (slice_get letters i) false

-- a step by an edge with a mark to a state, where a bit below a number is set
pub record IsStepBelow (plane next : List ℕ) (to : ℕ) (rejecting : Bool) (n : ℕ) (t : Step) : Type 0 where
  pub bit : ℕ
  pub below : bit < n
  pub set : has_bit plane bit ≡ true
  pub is : t ≡ record { machine_state = slice_index_or next bit 0; automaton_state = to; rejecting = rejecting }
