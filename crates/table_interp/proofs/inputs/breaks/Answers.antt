use Rattle.std.proofs.Common.{sym, ap, ◌∙◌}
use Rattle.std.specs.Prelude.{is_some}
use Rattle.table_interp.specs.internal.Rules.{breaks}
use Rattle.table_interp.proofs.inputs.breaks.Goals as goal

pub returns-in-Values : goal.returns-in-Values
returns-in-Values c =
    c.is_some.ensures ∙ ap is_some (rw c.from.ensures at c.first_from.ensures) ∙ ap (λ r. breaks r c.args.row.now) (sym c.in-Values.is)
