use Rattle.std.proofs.Common.{◌<◌, length, sym, ◌∙◌}
use Rattle.std.proofs.lemmas.List.Elements.{recursion_from_All}
use Rattle.base_library.proofs.Results.{handed_on}
use Rattle.table_interp.specs.Inputs.{HasRowCause}
use Rattle.table_syntax.specs.View.{inputs_view, numbers_view}
use Rattle.entry_names.proofs.NeededNames.{cells_within}
use Rattle.table_interp.proofs.Columns.{numbers_are, have_places, order_stands}
use Rattle.table_interp.proofs.Rows.{stem_small, cycle_small, rows_given}
use Rattle.table_interp.proofs.inputs.rows_from.Goals as goal

pub returns-in_err-places-clause-cause : goal.returns-in_err-places-clause-cause
returns-in_err-places-clause-cause c =
    handed_on _ _ (HasRowCause c.args.names.now c.args.inputs.now (inputs_view c.args.given.now) c.args.domain) c.from_residual.ensures.1
    (c.in_err-places.ensures.cause c.args.domain)

pub returns-in_err-check_widths-clause-cause : goal.returns-in_err-check_widths-clause-cause
returns-in_err-check_widths-clause-cause c =
    handed_on _ _ (HasRowCause c.args.names.now c.args.inputs.now (inputs_view c.args.given.now) c.args.domain)
    c.from_residual-in_err-check_widths.ensures.1 (c.in_err-check_widths.ensures.cause c.args.domain)

pub order_of-requires : goal.order_of-requires
order_of-requires c =
    rw c.deref.ensures.value
    (have_places c.args.names.now c.args.inputs.now c.requires.inputs (inputs_view c.args.given.now) c.in_ok-places.places.items
    c.in_ok-places.ensures.located c.in_ok-places.ensures.whole)

pub all_ordered-requires : goal.all_ordered-requires
all_ordered-requires c =
    rw c.deref-3.ensures.value (stem_small c.args.domain c.ranges.domain.fits (numbers_view c.args.given.now.stem.items)
    (numbers_view c.args.given.now.cycle.items) c.in_ok-check_values.ensures.ok.in_range)

pub all_ordered-requires-2 : goal.all_ordered-requires-2
all_ordered-requires-2 c =
    rw c.deref-5.ensures.value (cycle_small c.args.domain c.ranges.domain.fits (numbers_view c.args.given.now.stem.items)
    (numbers_view c.args.given.now.cycle.items) c.in_ok-check_values.ensures.ok.in_range)

pub returns-clause-gives : goal.returns-clause-gives
returns-clause-gives c =
    let columns = c.in_ok-places.ensures.located in
    let stands = order_stands columns c.in_ok-order.order.items c.args.inputs.now
    (recursion_from_All (λ s. s < length c.args.names.now) c.args.inputs.now
    (cells_within c.args.names.now c.args.inputs.now c.requires.inputs))
    (rw c.deref.ensures.value at c.in_ok-order.ensures) in
    record {
      in_range = c.in_ok-check_values.ensures.ok;
      columns = columns.numbers;
      columns_are = sym (numbers_are c.args.names.now (inputs_view c.args.given.now)) ∙ columns.numbers_are;
      stem =
          rw c.from_vec.ensures
          (rows_given columns.numbers columns.once c.in_ok-order.order.items c.args.inputs.now stands
          (numbers_view c.args.given.now.stem.items) c.in_ok-stem.stem.items
          (rw (c.deref-2.ensures.value, c.deref-3.ensures.value) at c.in_ok-stem.ensures));
      cycle =
          rw c.from_vec-2.ensures
          (rows_given columns.numbers columns.once c.in_ok-order.order.items c.args.inputs.now stands
          (numbers_view c.args.given.now.cycle.items) c.in_ok-cycle.cycle.items
          (rw (c.deref-4.ensures.value, c.deref-5.ensures.value) at c.in_ok-cycle.ensures));
    }
