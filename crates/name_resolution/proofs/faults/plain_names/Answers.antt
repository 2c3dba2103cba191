use Rattle.std.proofs.Common.{arith}
use Rattle.name_resolution.proofs.FirstPlain.{plain_more}
use Rattle.name_resolution.proofs.faults.plain_names.Goals as goal

pub loop-occurrence-preserved : goal.loop-occurrence-preserved
loop-occurrence-preserved c = record {
  names_are = plain_more c.loop-occurrence.names c.add_plain.new.names _ c.args.occurrences.now c.loop-occurrence.occurrence-index _
      c.loop-occurrence-test.true c.in_ok-add_plain.ensures.added c.loop-occurrence.invariant.names_are;
  few = omega (arith, c.loop-occurrence.invariant.few, c.in_ok-add_plain.ensures.few);
}
