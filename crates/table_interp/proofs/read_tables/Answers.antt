use Rattle.std.proofs.Common.{arith}
use Rattle.std.proofs.lemmas.Result.{IfOk-weaker}
use Rattle.std.proofs.lemmas.Result.{IfErr-weaker}
use Rattle.table_interp.specs.declared.TableError.TheVariants.{Domain}
use Rattle.table_syntax.specs.View.{tables_view}
use Rattle.table_interp.proofs.Facts.{interprets}
use Rattle.entry_names.proofs.NeededNames.{cells_within}
use Rattle.table_syntax.proofs.Readings.{has_value}
use Rattle.base_library.proofs.Results.{handed_on}
use Rattle.table_interp.proofs.OneTableCause.{tables_refused}
use Rattle.table_interp.proofs.Refusals.{form_cause, entry_cause}
use Rattle.table_interp.proofs.read_tables.Goals as goal

pub returns-in_err-given-clause-refused : goal.returns-in_err-given-clause-refused
returns-in_err-given-clause-refused c =
    handed_on _ _ _ c.from_residual.ensures.1 (tables_refused c.args.text.now c.args.names.now c.args.cells.now _
    (form_cause c.args.text.now c.args.names.now c.args.cells.now _ c.in_err-given.ensures.fault))

pub returns-then-given-from-clause-refused : goal.returns-then-given-from-clause-refused
returns-then-given-from-clause-refused c =
    tables_refused c.args.text.now c.args.names.now c.args.cells.now Domain
    (record {
      given = tables_view c.in_ok-given.given;
      read = c.in_ok-given.ensures.read;
      many_values = omega (arith, c.if-given-from.true, c.from.ensures);
    })

pub returns-clause-meaning : goal.returns-clause-meaning
returns-clause-meaning c =
    IfOk-weaker c.tables_from.result _ _ (λ tables gives.
    interprets c.args.names.now c.args.cells.now (tables_view c.in_ok-given.given)
    (cells_within c.args.names.now c.args.cells.now c.requires.cells) gives.in_range tables.interpretation gives
    (has_value c.args.text.now (tables_view c.in_ok-given.given) c.in_ok-given.ensures.read)
    (omega (arith, c.if-given-from.false, c.from.ensures)) c.requires.cells) c.tables_from.ensures.gives

pub returns-clause-refused : goal.returns-clause-refused
returns-clause-refused c =
    IfErr-weaker c.tables_from.result _ _ (λ e cause.
    tables_refused c.args.text.now c.args.names.now c.args.cells.now e
    (entry_cause c.args.text.now c.args.names.now c.args.cells.now (tables_view c.in_ok-given.given)
    (record {
      read = c.in_ok-given.ensures.read;
      few_values = omega (arith, c.if-given-from.false, c.from.ensures);
    })
    e cause)) c.tables_from.ensures.cause
