use Rattle.controller_circuits.specs.internal.Gates.{gates_tree}
use Rattle.controller_circuits.proofs.GateLemmas.{gives_either}
use Rattle.controller_circuits.proofs.gates.Gates.either.Goals as goal

pub returns : goal.returns
returns c =
    gives_either (gates_tree c.args.self.now) (gates_tree c.both.new.self) c.args.left c.args.right c.negated.result c.negated-2.result
    c.in_ok-neither.neither c.negated-3.result c.negated.ensures c.negated-2.ensures c.negated-3.ensures c.in_ok-neither.ensures
