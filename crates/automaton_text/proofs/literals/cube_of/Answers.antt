use Rattle.std.proofs.Common.{false}
use Rattle.automaton_text.proofs.LabelBits.{cube_next}
use Rattle.automaton_text.proofs.literals.cube_of.Goals as goal

pub loop-literal-preserved : goal.loop-literal-preserved
loop-literal-preserved c =
    cube_next c.loop-literal.care c.loop-literal.want _ _ _ _ c.args.literals.now c.loop-literal.literal-index
    (record { bit = 0; wanted = false }) c.loop-literal-test.true c.with_asked-care.ensures c.with_wanted-want.ensures
    c.loop-literal.invariant
