use Rattle.std.proofs.Common.{◌∷◌, subst, slice_set}
use Rattle.clause_core.specs.Literals.{Lit}
use Rattle.bounded_encoding.specs.internal.Transitions.{IsAround}
use Rattle.bounded_encoding.proofs.Moved.{next_put}
use Rattle.bounded_encoding.proofs.edge_literals.put_next.Goals as goal

pub returns : goal.returns
returns c = λ middle room.
    subst (λ (l : Lit). IsAround (l ∷ middle) (slice_set c.args.literals.now 1 c.literal.result)) c.literal.ensures
    (next_put middle c.args.literals.now c.literal.result room)
