use Rattle.std.proofs.Common.{◌+◌, ◌<◌, ℕ}
use Rattle.std.specs.Prelude.{◌≢◌}
use Rattle.program_tree.specs.ProgramView.{program_tree}
use Rattle.tsl_meaning.specs.Run.{configuration_at}
use Rattle.table_runner.specs.Running.{rows_seen}
use Rattle.table_runner.specs.Standings.{StandsAt}
use Rattle.table_runner.proofs.closing.first_start.Given as goal

-- the first one goes ahead
abbrev pub invariant-loop : goal.invariant-loop
invariant-loop g l = StandsAt g.J.Algebra.seen (g.J.Algebra.meanings l.fn.judge) (program_tree l.fn.program)
    (rows_seen g.J.Algebra.seen l.fn.inputs) l.counter l.later

-- both stand so far apart, and were at no step the same
abbrev pub invariant-loop-start : goal.invariant-loop-start
invariant-loop-start g l =
    StandsAt g.J.Algebra.seen (g.J.Algebra.meanings l.fn.judge) (program_tree l.fn.program)
    (rows_seen g.J.Algebra.seen l.fn.inputs) l.start l.earlier
    × StandsAt g.J.Algebra.seen (g.J.Algebra.meanings l.fn.judge) (program_tree l.fn.program) (rows_seen g.J.Algebra.seen l.fn.inputs)
    (l.start + l.fn.found.length) l.later
    × ((k : ℕ) → k < l.start → configuration_at (g.J.Algebra.meanings l.fn.judge) (program_tree l.fn.program)
    (rows_seen g.J.Algebra.seen l.fn.inputs) (k + l.fn.found.length) ≢ configuration_at (g.J.Algebra.meanings l.fn.judge)
    (program_tree l.fn.program) (rows_seen g.J.Algebra.seen l.fn.inputs) k)
