use Rattle.std.proofs.Common.{arith}
use Rattle.tsl_reader.proofs.Parameters.{parameter_more}
use Rattle.tsl_reader.proofs.splitting.names_once.Goals as goal

pub loop-parameter-preserved : goal.loop-parameter-preserved
loop-parameter-preserved c = record {
  names_are = parameter_more c.loop-parameter.names c.add_signal.new.names c.args.parameters.now c.loop-parameter.parameter-index _ _
      c.loop-parameter-test.true c.in_ok-add_signal.ensures.added c.loop-parameter.invariant.names_are;
  few = omega (arith, c.loop-parameter.invariant.few, c.in_ok-add_signal.ensures.few);
}
