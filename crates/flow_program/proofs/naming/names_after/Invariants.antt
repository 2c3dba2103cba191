-- The names so far, and then those of the uses that are left.
use Rattle.std.proofs.Common.{◌≡◌, map, drop}
use Rattle.flow_program.specs.Uses.{names_after}
use Rattle.flow_program.specs.internal.UseView.{use_view}
use Rattle.flow_program.proofs.naming.names_after.Given as goal

abbrev pub invariant-loop-usage : goal.invariant-loop-usage
invariant-loop-usage l = names_after l.names (map use_view (drop l.usage-index l.uses)) ≡ names_after l.fn.names (map use_view l.uses)
