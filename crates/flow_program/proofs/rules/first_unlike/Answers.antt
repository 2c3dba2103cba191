use Rattle.std.proofs.Common.{sym, ◌∙◌}
use Rattle.base_library.proofs.Finds.{find_image_past}
use Rattle.tsl_terms.specs.Clashes.{alike_in}
use Rattle.flow_program.specs.Rules.{is_unlike}
use Rattle.flow_program.specs.internal.UseView.{use_view}
use Rattle.flow_program.proofs.rules.first_unlike.Goals as goal

pub loop-usage-preserved : goal.loop-usage-preserved
loop-usage-preserved c =
    sym (find_image_past use_view (is_unlike (alike_in c.args.quality) c.args.names.now) c.args.uses.now c.loop-usage.usage-index _
    c.loop-usage-test.true (sym c.is_unlike.ensures ∙ c.if-is_unlike.false))
    ∙ c.loop-usage.invariant
