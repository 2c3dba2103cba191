use Rattle.std.proofs.Common.{◌+◌, ℕ}
use Rattle.program_tree.specs.ProgramView.{program_tree}
use Rattle.tsl_meaning.specs.Run.{configuration_at}
use Rattle.table_runner.specs.Running.{rows_seen}
use Rattle.table_runner.specs.Standings.{StandsAt}
use Rattle.table_runner.specs.internal.Returns.{IsAway}
use Rattle.table_runner.proofs.closing.return_within.Given as goal

-- it stands so many steps on, and did not come back
abbrev pub invariant-loop-steps : goal.invariant-loop-steps
invariant-loop-steps g l = (t : ℕ) →
    StandsAt g.J.Algebra.seen (g.J.Algebra.meanings l.fn.judge) (program_tree l.fn.program)
    (rows_seen g.J.Algebra.seen l.fn.inputs) t l.fn.standing →
    StandsAt g.J.Algebra.seen (g.J.Algebra.meanings l.fn.judge) (program_tree l.fn.program) (rows_seen g.J.Algebra.seen l.fn.inputs)
    (t + l.steps) l.standing
    × IsAway (configuration_at (g.J.Algebra.meanings l.fn.judge) (program_tree l.fn.program)
    (rows_seen g.J.Algebra.seen l.fn.inputs)) t l.steps
