use Rattle.std.proofs.Common.{sym, ◌∙◌}
use Rattle.std.specs.Prelude.{is_some}
use Rattle.std.specs.List.{find}
use Rattle.table_interp.specs.Inputs.{is_no_value, all_rows}
use Rattle.table_syntax.specs.View.{inputs_view}
use Rattle.table_interp.proofs.Rows.{same_row}
use Rattle.table_interp.proofs.inputs.check_values.Goals as goal

pub returns-in-Some-first_from-clause-cause : goal.returns-in-Some-first_from-clause-cause
returns-in-Some-first_from-clause-cause c = record {
  so_far = c.requires;
  first = c.in-Some.ensures;
  number =
      same_row (find (is_no_value c.args.domain)) (λ r. is_some (find (is_no_value c.args.domain) r))
      (all_rows (inputs_view c.args.given.now))
      c.in-Some.row c.in-Some.ensures c.row_at.result.now c.row_at.ensures
      ∙ sym (rw c.from.ensures at c.first_from.ensures) ∙ c.in-Some-first_from.is;
}
