use Rattle.tsl_meaning.specs.internal.Columns.{HaveColumns}
use Rattle.tsl_meaning.proofs.columns.add_columns.Given as goal

abbrev pub invariant-loop-signal : goal.invariant-loop-signal
invariant-loop-signal g l = HaveColumns g.J.Algebra.seen l.leaves l.columns.items
