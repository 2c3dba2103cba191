use Rattle.std.proofs.Common.{◌∙◌, sym, arith, length}
use Rattle.cobuchi_automata.specs.internal.Exploring.{is_put_off}
use Rattle.cobuchi_automata.proofs.CounterLemmas.{rises_on}
use Rattle.cobuchi_automata.proofs.counters.risen.Goals as goal

pub loop-risen-preserved : goal.loop-risen-preserved
loop-risen-preserved c = record {
  risen = rises_on (is_put_off c.args.untils.now c.args.postponed.now) (length c.args.untils.now) c.loop-risen.risen c.loop-risen-test.true
      (sym c.is_put_off.ensures ∙ c.if-is_put_off.false) ∙ c.loop-risen.invariant.risen;
  within = omega (arith, c.loop-risen-test.true);
}
