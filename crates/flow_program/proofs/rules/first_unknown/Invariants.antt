-- The first such use among those that are left is the first of all.
use Rattle.std.proofs.Common.{◌≡◌, map, drop}
use Rattle.std.specs.Prelude.{find}
use Rattle.tsl_terms.specs.Name.{texts}
use Rattle.flow_program.specs.Rules.{is_unknown}
use Rattle.flow_program.specs.internal.UseView.{use_view}
use Rattle.flow_program.proofs.rules.first_unknown.Given as goal

abbrev pub invariant-loop-usage : goal.invariant-loop-usage
invariant-loop-usage l =
    find (is_unknown (texts l.readable)) (map use_view (drop l.usage-index l.uses))
    ≡ find (is_unknown (texts l.readable)) (map use_view l.uses)
