use Rattle.std.proofs.Common.{◌≡◌, ◌++◌, map, sym, subst}
use Rattle.tsl_terms.specs.Name.{AreDistinct}
use Rattle.program_listing.specs.Listing.{declared_entry}
use Rattle.flow_program.proofs.RuleLemmas.{parts_distinct}
use Rattle.flow_program.proofs.reading.declared_signals.Goals as goal

pub declared_names-requires-clause-once : goal.declared_names-requires-clause-once
declared_names-requires-clause-once c =
    let l = c.args.listing.now in
    let both = (parts_distinct c.args.text.now (l.inputs.items ++ l.cells.items) l.outputs.items c.requires.listing.declared_once).0 in
    subst (λ ds. AreDistinct (map (declared_entry c.args.text.now) ds)) (sym c.deref-5.ensures.value)
    (parts_distinct c.args.text.now l.inputs.items l.cells.items both).1

pub declared_names-requires-2-clause-once : goal.declared_names-requires-2-clause-once
declared_names-requires-2-clause-once c =
    let l = c.args.listing.now in
    let both : c.deref-6.result.now ≡ l.inputs.items ++ l.cells.items = cc (c.in_ok-inputs_and_cells.ensures) in
    subst (λ ds. AreDistinct (map (declared_entry c.args.text.now) ds)) (sym both)
    (parts_distinct c.args.text.now (l.inputs.items ++ l.cells.items) l.outputs.items c.requires.listing.declared_once).0
