use Rattle.table_interp.specs.internal.Rules.{breaks}
use Rattle.table_interp.proofs.Rows.{NoneSoFar}
use Rattle.table_interp.proofs.inputs.first_breaking.Given as goal

abbrev pub invariant-loop-place : goal.invariant-loop-place
invariant-loop-place l = NoneSoFar (breaks l.rule) l.rows l.place
