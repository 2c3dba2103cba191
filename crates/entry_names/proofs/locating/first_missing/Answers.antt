use Rattle.std.proofs.Common.{map, sym, ◌∙◌, arith}
use Rattle.base_library.proofs.Finds.{find_past, find_here, find_end}
use Rattle.entry_names.specs.Entries.{has_no_entry}
use Rattle.entry_names.proofs.locating.first_missing.Goals as goal

pub returns-then-has_no_entry : goal.returns-then-has_no_entry
returns-then-has_no_entry g c =
    sym (c.loop-id.invariant
    ∙ find_here (has_no_entry c.args.names.now (map g.E.Named.subject c.args.entries.now)) c.args.needed.now c.loop-id.id-index 0
    (omega (arith, c.loop-id-test.true)) (sym c.has_no_entry.ensures ∙ c.if-has_no_entry.true))

pub loop-id-preserved : goal.loop-id-preserved
loop-id-preserved g c =
    c.loop-id.invariant
    ∙ find_past (has_no_entry c.args.names.now (map g.E.Named.subject c.args.entries.now)) c.args.needed.now c.loop-id.id-index 0
    (omega (arith, c.loop-id-test.true)) (sym c.has_no_entry.ensures ∙ c.if-has_no_entry.false)

pub returns : goal.returns
returns g c =
    sym (c.loop-id.invariant
    ∙ find_end (has_no_entry c.args.names.now (map g.E.Named.subject c.args.entries.now)) c.args.needed.now c.loop-id.id-index
    (omega (arith, c.loop-id-test.false)))
