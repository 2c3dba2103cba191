use Rattle.std.proofs.Common.{◌∙◌, ◌*◌, ◌+◌, ap, arith}
use Rattle.letter_space.proofs.Bounds.{vectors_left, counted_next}
use Rattle.letter_space.proofs.FewVectors.{count_fits, counted_whole}
use Rattle.letter_space.proofs.picking.vector_count.Goals as goal

pub overflow_mul-count : goal.overflow_mul-count
overflow_mul-count c =
    let counted = counted_next c.args.signals.now c.loop-signal.signal-index c.signal-item.result c.loop-signal.count
    c.loop-signal-test.true c.signal-item.is in
    let fits = count_fits c.args.signals.now (c.loop-signal.signal-index + 1) (c.loop-signal.count * c.len.result) c.requires.few
    c.requires.chosen
    (ap (λ n. (c.loop-signal.count * n) * vectors_left c.args.signals.now (c.loop-signal.signal-index + 1)) c.len.ensures
    ∙ counted ∙ c.loop-signal.invariant) in
    omega (arith, fits)

pub loop-signal-preserved : goal.loop-signal-preserved
loop-signal-preserved c =
    let counted = counted_next c.args.signals.now c.loop-signal.signal-index c.signal-item.result c.loop-signal.count
    c.loop-signal-test.true c.signal-item.is in
    ap (λ n. (c.loop-signal.count * n) * vectors_left c.args.signals.now (c.loop-signal.signal-index + 1)) c.len.ensures
    ∙ counted ∙ c.loop-signal.invariant

pub returns : goal.returns
returns c = counted_whole c.args.signals.now c.loop-signal.signal-index c.loop-signal.count c.loop-signal-test.false c.loop-signal.invariant
