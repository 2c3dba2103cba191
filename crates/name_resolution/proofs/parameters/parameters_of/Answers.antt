use Rattle.std.proofs.Common.{arith}
use Rattle.name_resolution.proofs.NameTests.{among_more, repeated_more}
use Rattle.name_resolution.proofs.parameters.parameters_of.Goals as goal

pub loop-parameter-preserved : goal.loop-parameter-preserved
loop-parameter-preserved c =
    let i = c.loop-parameter in
    record {
      names = among_more i.names c.add_parameter.new.names c.args.parameters.now i.parameter-index _ c.loop-parameter-test.true
          i.invariant.names c.in_ok-add_parameter.ensures.names;
      repeated = repeated_more i.names i.repeated c.add_parameter.new.repeated c.args.parameters.now i.parameter-index _
          c.loop-parameter-test.true i.invariant.names i.invariant.repeated c.in_ok-add_parameter.ensures.repeated;
      few_names = omega (arith, i.invariant.few_names, c.in_ok-add_parameter.ensures.few_names);
      few_repeated = omega (arith, i.invariant.few_repeated, c.in_ok-add_parameter.ensures.few_repeated);
    }
