use Rattle.std.proofs.Common.{◌∙◌}
use Rattle.word_interp.proofs.Given.{by_operation, by_test}
use Rattle.word_interp.proofs.operations.entry_at_words.Goals as goal

pub value_of-requires-clause-taken : goal.value_of-requires-clause-taken
value_of-requires-clause-taken c = (by_operation c.args.domain c.requires.some c.args.arguments.now c.requires.values c.args.given.now c.requires.had
    c.in-Operation.operation c.in-Operation.is).1

pub truth_of-requires : goal.truth_of-requires
truth_of-requires c = (by_test c.args.domain c.requires.some c.args.arguments.now c.requires.values c.args.given.now c.requires.had c.in-Test.test c.in-Test.is).1

pub returns-in-Operation : goal.returns-in-Operation
returns-in-Operation c = (by_operation c.args.domain c.requires.some c.args.arguments.now c.requires.values c.args.given.now c.requires.had
    c.in-Operation.operation c.in-Operation.is).0 ∙ c.value_of.ensures

pub returns-in-Test : goal.returns-in-Test
returns-in-Test c = (by_test c.args.domain c.requires.some c.args.arguments.now c.requires.values c.args.given.now c.requires.had c.in-Test.test c.in-Test.is).0
    ∙ c.truth_of.ensures
