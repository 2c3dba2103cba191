use Rattle.std.proofs.Common.{◌+◌}
use Rattle.bounded_encoding.specs.SimpleClauses.{some_one, no_two}
use Rattle.bounded_encoding.specs.Begun.{IsBegun}
use Rattle.bounded_encoding.proofs.Begun.{begun_second, where_cut}
use Rattle.bounded_encoding.proofs.simple_clauses.add_exactly_one.Goals as goal

pub returns-clause-begun : goal.returns-clause-begun
returns-clause-begun c =
    let some = some_one (λ x. c.args.base + x) c.args.from c.args.to in
    let pairs = no_two (λ x. c.args.base + x) c.args.from c.args.to in
    where_cut c.add_no_two.result (IsBegun c.add_some.new.out pairs c.add_no_two.new.out) _
    (begun_second c.args.out.now c.add_some.new.out c.add_no_two.new.out some pairs c.in_ok-add_some.ensures.added)
    c.add_no_two.ensures.begun
