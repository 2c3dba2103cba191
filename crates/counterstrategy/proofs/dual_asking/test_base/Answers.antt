use Rattle.std.proofs.Common.{arith}
use Rattle.counterstrategy.proofs.DualSizes.{test_fits, few_variables}
use Rattle.counterstrategy.proofs.dual_asking.test_base.Goals as goal

pub returns-clause-room : goal.returns-clause-room
returns-clause-room c = omega (
  arith,
  test_fits c.args.question.now c.args.s c.requires.state,
  few_variables c.args.question.now c.requires.asked,
  c.requires.asked.tests,
)
