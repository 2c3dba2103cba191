-- When a run that is written down is the run of a program.
use Rattle.std.specs.Prelude.{◌≡◌, ◌≢◌, ℕ, ◌+◌, ◌<◌, Some, length as count_of, slice_get}
use Rattle.loop_shape.specs.LoopShape.{LoopShape}
use Rattle.tsl_terms.specs.Value.{Meanings}
use Rattle.program_tree.specs.ProgramTree.{ProgramTree}
use Rattle.program_tree.specs.Walk.{Action}
use Rattle.tsl_meaning.specs.Interpretation.{InputRows}
use Rattle.tsl_meaning.specs.Run.{Configuration, row_at, action_in, configuration_at, Closed}
use Rattle.tsl_meaning.specs.RunTree.{PositionTree, RunTree}
use Rattle.tsl_meaning.specs.RunLasso.{shape_of}

module _ {S : Type 0} where
  abbrev pub configuration_of : PositionTree S → Configuration S
  configuration_of p = record { place = p.place; state = p.state; cells = p.cells }

  module _ (meanings : Meanings S) (program : ProgramTree) (rows : InputRows S) where
    -- what stands at a position is what the program has and does at that step, and the row of its place
    pub record IsStepOf (t : ℕ) (p : PositionTree S) : Type 0 where
      pub is_now : configuration_at meanings program rows t ≡ Some (configuration_of p)
      pub reads : row_at rows p.place ≡ Some p.row
      pub action : Action
      pub does : action_in meanings program rows (configuration_of p) ≡ Some action
      pub assigns : p.updates ≡ action.updates

    -- The run closes, with its own shape, and has what stands at each position.
    pub record IsRunOf (run : RunTree S) : Type 0 where
      pub inputs : run.inputs ≡ program.inputs
      pub cells : run.cells ≡ program.cells
      pub outputs : run.outputs ≡ program.outputs
      pub closes : Closed meanings program rows (shape_of run)
      pub count : count_of run.positions ≡ run.start + run.length
      pub positions : (t : ℕ) (p : PositionTree S) → slice_get run.positions t ≡ Some p → IsStepOf t p

    -- no two of the first so many configurations are equal
    abbrev pub AreDifferent : ℕ → Type 0
    AreDifferent n = (i j : ℕ) → i < j → j < n → configuration_at meanings program rows i ≢ configuration_at meanings program rows j

    -- the run closes at the first configuration that stood before
    pub record IsFirstRepetition (shape : LoopShape) : Type 0 where
      pub closes : Closed meanings program rows shape
      pub different : AreDifferent (shape.start + shape.length)
