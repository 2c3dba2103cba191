use Rattle.std.proofs.Common.{◌∙◌, ◌+◌, ◌++◌, ◌∷◌, [], ap}
use Rattle.clause_core.specs.Literals.{Lit}
use Rattle.bounded_encoding.specs.SimpleClauses.{yes_at}
use Rattle.bounded_encoding.proofs.Adding.{collected}
use Rattle.bounded_encoding.proofs.simple_clauses.add_some.Goals as goal

pub loop-x-preserved : goal.loop-x-preserved
loop-x-preserved c = collected _ _ _ _ _ (λ z. yes_at (c.args.base + z)) c.loop-x-test.true c.loop-x.invariant
    (c.in_ok-push.ensures.items ∙ ap (λ (l : Lit). c.loop-x.literals.items ++ l ∷ []) c.literal.ensures)
