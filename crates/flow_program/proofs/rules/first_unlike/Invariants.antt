-- The first such use among those that are left is the first of all.
use Rattle.std.proofs.Common.{◌≡◌, map, drop}
use Rattle.std.specs.Prelude.{find}
use Rattle.tsl_terms.specs.Clashes.{alike_in}
use Rattle.flow_program.specs.Rules.{is_unlike}
use Rattle.flow_program.specs.internal.UseView.{use_view}
use Rattle.flow_program.proofs.rules.first_unlike.Given as goal

abbrev pub invariant-loop-usage : goal.invariant-loop-usage
invariant-loop-usage l =
    find (is_unlike (alike_in l.quality) l.names) (map use_view (drop l.usage-index l.uses))
    ≡ find (is_unlike (alike_in l.quality) l.names) (map use_view l.uses)
