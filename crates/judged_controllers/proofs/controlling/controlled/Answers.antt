use Rattle.std.proofs.Common.{arith}
use Rattle.std.proofs.lemmas.Option.{IfSome_then}
use Rattle.judged_controllers.proofs.controlling.controlled.Goals as goal

pub returns-clause-few_states : goal.returns-clause-few_states
returns-clause-few_states c =
    IfSome_then c.in_ok-found.found c.in_ok-found.ensures.few_states (λ p few. omega (arith, few, c.if-machine-effort.false))
