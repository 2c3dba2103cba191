use Rattle.std.proofs.Common.{◌<◌, length, ap, ◌∙◌, nat_eq, get_or, arith}
use Rattle.base_library.proofs.Numbers.{lookup_not_among, distinct_new}
use Rattle.base_library.specs.Numbers.{is_among}
use Rattle.indexmap.proofs.CallerLemmas.{insert_entry-new}
use Rattle.table_interp.proofs.Growing.{cell_added}
use Rattle.table_interp.proofs.tables.values_by_cell.Goals as goal

pub loop-place-preserved : goal.loop-place-preserved
loop-place-preserved c =
    let below : c.loop-place.place < length c.args.cells.now = omega (arith, c.loop-place-test.true) in
    let within : c.loop-place.place < length c.args.initial.now = omega (arith, below, c.requires.paired) in
    let new = distinct_new c.args.cells.now c.loop-place.place 0 below c.requires.distinct in
    let absent = lookup_not_among (get_or c.args.cells.now c.loop-place.place 0) c.loop-place.values.entries
    (ap (λ ks. is_among ks (get_or c.args.cells.now c.loop-place.place 0)) c.loop-place.invariant.0 ∙ new) in
    cell_added c.loop-place.values.entries c.insert.new.self.entries c.args.cells.now c.args.initial.now c.loop-place.place 0 0 below within
    (c.in_ok-insert.ensures.entries
    ∙ insert_entry-new nat_eq c.loop-place.values (get_or c.args.cells.now c.loop-place.place 0)
    (get_or c.args.initial.now c.loop-place.place 0) absent)
    c.loop-place.invariant
