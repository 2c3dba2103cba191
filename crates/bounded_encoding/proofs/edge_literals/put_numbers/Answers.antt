use Rattle.bounded_encoding.proofs.Around.{around_both}
use Rattle.bounded_encoding.proofs.edge_literals.put_numbers.Goals as goal

pub returns-clause-around : goal.returns-clause-around
returns-clause-around c = λ middle h. around_both middle c.args.literals.now c.literal.result c.literal-2.result h
