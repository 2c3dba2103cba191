-- Moves of machines, and letter loops that follow them.
-- Source: Finkbeiner, Klein, Piskac, Santolucito: Temporal Stream Logic: Synthesis Beyond the Bools (CAV 2019), the
-- approximation in linear temporal logic.
use Rattle.std.specs.Prelude.{◌≡◌, ◌<◌, ℕ, suc, ◌*◌, List, [], ◌∷◌, take, drop, Option, Some, option_map, option_and_then}
use Rattle.std.specs.Prelude.{slice_get, filter_map, Contains}
use Rattle.std.specs.List.{AllByRecursion, range_with_len}
use Rattle.loop_shape.specs.LoopShape.{after}
use Rattle.ltl_formula.specs.LetterLoop.{LetterLoop, shape_of, letter_at}
use Rattle.letter_space.specs.SpaceTree.{SpaceTree}
use Rattle.letter_space.specs.Letters.{valuation_count, ArePicks, letter_of}
use Rattle.letter_space.specs.Vectors.{vector_count, picks_of}
use Rattle.machines.specs.MachineTree.{EntryTree, ControllerTree, EnvironmentTree, successor_at}

-- a letter that a machine allows in a state, and the state to go to
pub record MoveTree : Type 0 where
  pub letter : ℕ
  pub next : ℕ

-- A controller fits a space: it has a valuation for each one of the space, and each entry has one choice for each controlled
-- signal, among that signal's choices.
pub record FitsSpace (space : SpaceTree) (c : ControllerTree) : Type 0 where
  pub valuations : c.valuations ≡ valuation_count space
  pub choices : AllByRecursion (λ e. ArePicks space.controlled e.choices) c.entries

-- the entries of a state, by valuation
abbrev pub entries_of : ControllerTree → ℕ → List EntryTree
entries_of c s = take c.valuations (drop (s * c.valuations) c.entries)

-- the moves of entries that stand at valuations from a first one on
abbrev pub moves_from : SpaceTree → ℕ → List EntryTree → List MoveTree
moves_from space v [] = []
moves_from space v (e ∷ es) = record { letter = letter_of space v e.choices; next = e.next } ∷ moves_from space (suc v) es

-- the moves of a controller in a state: one for each valuation, with the letter of its truths and of what is chosen under it
abbrev pub controller_moves : SpaceTree → ControllerTree → ℕ → List MoveTree
controller_moves space c s = moves_from space 0 (entries_of c s)

-- An environment fits a space: it has as many vectors as the space, and what is true in each state is a valuation of the space.
pub record EnvironmentFits (space : SpaceTree) (e : EnvironmentTree) : Type 0 where
  pub vectors : e.vectors ≡ vector_count space.controlled
  pub truths : AllByRecursion (λ v. v < valuation_count space) e.truths

-- the move in a state where so much is true, under a vector: the letter of that and of what the vector picks, and the state to go to
abbrev pub move_under : SpaceTree → ℕ → ℕ → ℕ → MoveTree
move_under space truths vector next = record { letter = letter_of space truths (picks_of space.controlled vector); next = next }

-- the move of an environment in a state under a vector
abbrev pub environment_move : SpaceTree → EnvironmentTree → ℕ → ℕ → Option MoveTree
environment_move space e s vector =
    option_and_then (λ truths. option_map (move_under space truths vector) (successor_at e s vector)) (slice_get e.truths s)

-- the moves of an environment in a state: one for each vector, in order
abbrev pub environment_moves : SpaceTree → EnvironmentTree → ℕ → List MoveTree
environment_moves space e s = filter_map (environment_move space e s) (range_with_len 0 e.vectors)

-- A letter loop that a machine with these moves in each state runs along, in these states by position: it begins in state 0, and
-- each letter is that of a move to the state at the position after, so that the loop closes on the state too.
pub record IsLoopOf (moves : ℕ → List MoveTree) (loop : LetterLoop) (state : ℕ → ℕ) : Type 0 where
  pub begins : state 0 ≡ 0
  pub goes_on : (i l : ℕ) → letter_at loop i ≡ Some l
      → Contains (moves (state i)) (record { letter = l; next = state (after (shape_of loop) i) })
