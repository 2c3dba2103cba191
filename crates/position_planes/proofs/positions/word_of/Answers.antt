use Rattle.std.proofs.Common.{◌≡◌, ◌∙◌, ◌+◌, ◌*◌, false, refl, subst, sym, slice_index_or}
use Rattle.position_planes.proofs.TruthWords.{bit_for, IsWordOf, one_more, byte_is}
use Rattle.position_planes.proofs.positions.word_of.Goals as goal

pub loop-i-preserved : goal.loop-i-preserved
loop-i-preserved c =
    let holds = slice_index_or c.args.truths.now c.loop-i.i false in
    let bit : c.from.result ≡ bit_for holds = c.from.ensures ∙ byte_is holds in
    subst (λ n. IsWordOf c.args.truths.now c.saturating_sub-start.result (c.loop-i.i + 1) (2 * c.loop-i.word + n)) (sym bit)
    (one_more c.args.truths.now c.saturating_sub-start.result c.loop-i.i c.loop-i.word holds refl c.loop-i.invariant)
