-- What holds at the positions of a run that is written down.
use Rattle.std.specs.Prelude.{ℕ, Bool, false, ◌++◌, Option, IsSome, slice_get}
use Rattle.std.specs.Option.{option_or, option_map_or}
use Rattle.std.specs.List.{AllByRecursion}
use Rattle.loop_shape.specs.LoopShape.{LoopShape}
use Rattle.tsl_terms.specs.SameTree.{same_tree}
use Rattle.tsl_terms.specs.FormulaTree.{Atom, test, update, FormulaTree}
use Rattle.tsl_terms.specs.Atoms.{atoms}
use Rattle.tsl_terms.specs.Value.{Meanings, truth, beside}
use Rattle.tsl_meaning.specs.RunTree.{PositionTree, RunTree}
use Rattle.tsl_meaning.specs.Lasso.{Lasso}

module _ {S : Type 0} where
  abbrev pub shape_of : RunTree S → LoopShape
  shape_of run = record { start = run.start; length = run.length }

  -- the value of a signal at a position: an input's in the row, a cell's among the cells
  abbrev pub value_at : RunTree S → PositionTree S → ℕ → Option S
  value_at run p s = option_or (beside s run.inputs p.row) (beside s run.cells p.cells)

  -- whether an atom holds at a position: a probe where its truth is there and true, an update where the signal is
  -- assigned that tree and not merely one of equal value
  abbrev pub atom_holds : Meanings S → RunTree S → PositionTree S → Atom → Bool
  atom_holds meanings run p (test probe) = option_map_or (λ truth. truth) (truth meanings (value_at run p) probe) false
  atom_holds meanings run p (update s tree) =
      option_map_or (λ assigned. same_tree assigned tree) (beside s (run.cells ++ run.outputs) p.updates) false

  -- the run as its formulas see it
  abbrev pub run_lasso : Meanings S → RunTree S → Lasso
  run_lasso meanings run = record {
    shape = shape_of run;
    holds = λ i a. option_map_or (λ p. atom_holds meanings run p a) (slice_get run.positions i) false;
  }

  -- a probe has a truth at each position; an update wants nothing
  abbrev pub HasTruths : Meanings S → RunTree S → Atom → Type 0
  HasTruths meanings run (test probe) = AllByRecursion (λ p. IsSome (truth meanings (value_at run p) probe)) run.positions
  HasTruths meanings run (update s tree) = Unit {0}

  -- each probe of a formula has a truth at each position of a run
  abbrev pub IsJudged : Meanings S → RunTree S → FormulaTree → Type 0
  IsJudged meanings run formula = AllByRecursion (HasTruths meanings run) (atoms formula)
