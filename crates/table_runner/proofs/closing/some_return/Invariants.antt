use Rattle.std.proofs.Common.{◌≡◌, ◌+◌, ◌^◌, ◌≤◌, ◌-◌}
use Rattle.program_tree.specs.ProgramView.{program_tree}
use Rattle.table_runner.specs.Running.{rows_seen}
use Rattle.table_runner.specs.Standings.{StandsAt}
use Rattle.table_runner.proofs.closing.some_return.Given as goal

-- it stands at the step, which is one less than the reach
abbrev pub invariant-loop-standing : goal.invariant-loop-standing
invariant-loop-standing g l =
    StandsAt g.J.Algebra.seen (g.J.Algebra.meanings l.fn.judge) (program_tree l.fn.program)
    (rows_seen g.J.Algebra.seen l.fn.inputs) l.step l.standing × (l.step + 1 ≡ l.reach) × (l.reach ≤ 2 ^ 33)

abbrev pub decreases-loop-standing : goal.decreases-loop-standing
decreases-loop-standing g l = 2 ^ 33 - l.reach
