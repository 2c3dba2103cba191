use Rattle.automaton_text.proofs.Writing.{further_next}
use Rattle.automaton_text.proofs.labels.put_further.Goals as goal

pub loop-bit-preserved : goal.loop-bit-preserved
loop-bit-preserved c =
    further_next c.args.cube.care c.args.cube.want c.args.bits c.loop-bit.bit c.loop-bit.out.items c.put_if_asked.new.out.items _
    c.loop-bit-test.true
    c.in_ok-put_if_asked.ensures c.loop-bit.invariant
