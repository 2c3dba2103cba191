-- The computation of a program, step by step, and where it closes.
-- Source: Finkbeiner, Klein, Piskac, Santolucito: Temporal Stream Logic: Synthesis Beyond the Bools
-- (CAV 2019), computations.
use Rattle.std.specs.Prelude.{◌≡◌, ℕ, zero, suc, ◌+◌, ◌≤◌, ◌==◌, Bool, List, ◌++◌, length, map, take, Option, Some, option_map}
use Rattle.std.specs.Prelude.{option_and_then, slice_get, if◌then◌else◌}
use Rattle.std.specs.Option.{option_or}
use Rattle.base_library.specs.Options.{all_there}
use Rattle.loop_shape.specs.LoopShape.{LoopShape}
use Rattle.tsl_terms.specs.TermTree.{TermTree, ProbeTree}
use Rattle.tsl_terms.specs.Value.{Meanings, value, truth, beside}
use Rattle.program_tree.specs.ProgramTree.{ProgramTree, controlled}
use Rattle.program_tree.specs.Walk.{Action, walk}
use Rattle.tsl_meaning.specs.Interpretation.{InputRows}

-- a place among the input rows, a state of the program, and a value for each cell
pub record Configuration (V : Type 0) : Type 0 where
  pub place : ℕ
  pub state : ℕ
  pub cells : List V

module _ {V : Type 0} where
  -- the row at a place, stem rows first
  abbrev pub row_at : InputRows V → ℕ → Option (List V)
  row_at rows place = slice_get (rows.stem ++ rows.cycle) place

  -- the place after a place: the next row, and after the last row the first of the cycle
  abbrev pub place_after : InputRows V → ℕ → ℕ
  place_after rows place =
      if (place + 1) == length (rows.stem ++ rows.cycle) then length rows.stem else place + 1

  -- the value of a signal: an input's in the row, a cell's among the cells
  abbrev pub signal_value : ProgramTree → InputRows V → Configuration V → ℕ → Option V
  signal_value program rows c s =
      option_or (option_and_then (beside s program.inputs) (row_at rows c.place)) (beside s program.cells c.cells)

  -- what the program does in a configuration
  abbrev pub action_in : Meanings V → ProgramTree → InputRows V → Configuration V → Option Action
  action_in meanings program rows c = walk program (truth meanings (signal_value program rows c)) c.state

  -- the configuration at first
  abbrev pub first_configuration : Meanings V → ProgramTree → Option (Configuration V)
  first_configuration meanings program =
      option_map (λ cells. record { place = 0; state = 0; cells = cells }) (all_there (map meanings.initial program.cells))

  -- after an action each cell has the value that its term had before it
  abbrev pub configuration_after : Meanings V → ProgramTree → InputRows V → Configuration V → Action → Option (Configuration V)
  configuration_after meanings program rows c action =
      option_map (λ cells. record { place = place_after rows c.place; state = action.go; cells = cells })
      (all_there (map (value meanings (signal_value program rows c)) (take (length program.cells) action.updates)))

  -- the configuration after so many steps
  abbrev pub configuration_at : Meanings V → ProgramTree → InputRows V → ℕ → Option (Configuration V)
  configuration_at meanings program rows zero = first_configuration meanings program
  configuration_at meanings program rows (suc t) =
      option_and_then
      (λ c. option_and_then (configuration_after meanings program rows c) (action_in meanings program rows c))
      (configuration_at meanings program rows t)

  -- a step is there: it has a configuration, and what the program does in it
  pub record HasStep (meanings : Meanings V) (program : ProgramTree) (rows : InputRows V) (t : ℕ) : Type 0 where
    pub now : Configuration V
    pub is_now : configuration_at meanings program rows t ≡ Some now
    pub action : Action
    pub does : action_in meanings program rows now ≡ Some action

  -- The run closes: after `length` more steps it is where it was after `start` steps, in place, state and
  -- every cell.
  pub record Closed (meanings : Meanings V) (program : ProgramTree) (rows : InputRows V) (shape : LoopShape) : Type 0 where
    pub goes_on : 1 ≤ shape.length
    pub seam : Configuration V
    pub at_start : configuration_at meanings program rows shape.start ≡ Some seam
    pub at_end : configuration_at meanings program rows (shape.start + shape.length) ≡ Some seam

  -- the term that is assigned to a signal at a step
  abbrev pub assigned_at : Meanings V → ProgramTree → InputRows V → ℕ → ℕ → Option TermTree
  assigned_at meanings program rows t s =
      option_and_then (λ c. option_and_then (λ action. beside s (controlled program) action.updates)
      (action_in meanings program rows c))
      (configuration_at meanings program rows t)

  -- the truth of a probe at a step
  abbrev pub truth_at : Meanings V → ProgramTree → InputRows V → ℕ → ProbeTree → Option Bool
  truth_at meanings program rows t p =
      option_and_then (λ c. truth meanings (signal_value program rows c) p) (configuration_at meanings program rows t)
