use Rattle.std.proofs.Common.{◌∙◌, sym}
use Rattle.branch_finder.proofs.ValueLemmas.{value_past}
use Rattle.branch_finder.proofs.values.value_of_signal.Goals as goal

pub loop-place-preserved : goal.loop-place-preserved
loop-place-preserved c =
    let known = c.args.known.now in
    sym (value_past known.cells.now known.values.now known.step c.args.signal c.loop-place.place c.requires.each c.loop-place-test.true
    c.if-cell-signal.false) ∙ c.loop-place.invariant
