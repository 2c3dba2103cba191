use Rattle.std.proofs.Common.{◌≡◌, ◌+◌, ℕ, length, map, slice_get, Some}
use Rattle.program_tree.specs.ProgramView.{program_tree}
use Rattle.tsl_meaning.specs.RunTree.{PositionTree, position_tree}
use Rattle.tsl_meaning.specs.LoopFits.{PositionsFit}
use Rattle.tsl_meaning.specs.RunOf.{IsStepOf}
use Rattle.table_runner.specs.Running.{rows_seen}
use Rattle.table_runner.specs.Standings.{StandsAt}
use Rattle.table_runner.proofs.recording.first_positions.Given as goal

-- it stands at a step, and has the positions of the steps before
abbrev pub invariant-loop : goal.invariant-loop
invariant-loop g l =
    StandsAt g.J.Algebra.seen (g.J.Algebra.meanings l.fn.judge) (program_tree l.fn.program)
    (rows_seen g.J.Algebra.seen l.fn.inputs) l.counter l.standing
    × (length l.positions ≡ l.counter)
    × PositionsFit (length l.fn.program.inputs) (length l.fn.program.cells)
    (length l.fn.program.cells + length l.fn.program.outputs) l.positions
    × ((t : ℕ) (p : PositionTree g.J.Algebra.Seen) → slice_get (map (position_tree g.J.Algebra.seen) l.positions) t ≡ Some p →
    IsStepOf (g.J.Algebra.meanings l.fn.judge) (program_tree l.fn.program) (rows_seen g.J.Algebra.seen l.fn.inputs) t p)
