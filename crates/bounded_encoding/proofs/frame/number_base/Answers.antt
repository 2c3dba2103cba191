use Rattle.std.proofs.Common.{arith}
use Rattle.bounded_encoding.proofs.Sizes.{number_fits, few_variables}
use Rattle.bounded_encoding.proofs.frame.number_base.Goals as goal

pub overflow_mul-result-4 : goal.overflow_mul-result-4
overflow_mul-result-4 c = omega (
  arith,
  (number_fits c.args.frame.now c.args.s c.args.p c.requires.state c.requires.automaton_state).1,
  few_variables c.args.frame.now c.requires.framed,
)

pub overflow_add-result-4 : goal.overflow_add-result-4
overflow_add-result-4 c = omega (
  arith,
  (number_fits c.args.frame.now c.args.s c.args.p c.requires.state c.requires.automaton_state).1,
  few_variables c.args.frame.now c.requires.framed,
)

pub returns-clause-room : goal.returns-clause-room
returns-clause-room c = omega (
  arith,
  (number_fits c.args.frame.now c.args.s c.args.p c.requires.state c.requires.automaton_state).1,
  few_variables c.args.frame.now c.requires.framed,
)
