use Rattle.std.proofs.Common.{sym, ◌∙◌}
use Rattle.table_interp.specs.internal.Rules.{breaks}
use Rattle.table_interp.proofs.Rows.{rows_right, rows_neither}
use Rattle.table_interp.proofs.inputs.first_row.Goals as goal

pub returns-in-Some-first_breaking : goal.returns-in-Some-first_breaking
returns-in-Some-first_breaking c =
    rows_right (breaks c.args.rule) c.deref.result.now c.deref-in-None.result.now c.args.given.now.stem.items
    c.args.given.now.cycle.items c.in-Some-first_breaking.place c.len.result c.deref.ensures.value c.deref-in-None.ensures.value
    (c.len.ensures ∙ sym c.deref.ensures.len) c.in-None.ensures c.in-Some-first_breaking.ensures

pub returns-in-None-first_breaking : goal.returns-in-None-first_breaking
returns-in-None-first_breaking c =
    rows_neither (breaks c.args.rule) c.deref.result.now c.deref-in-None.result.now c.args.given.now.stem.items
    c.args.given.now.cycle.items c.deref.ensures.value c.deref-in-None.ensures.value c.in-None.ensures c.in-None-first_breaking.ensures
