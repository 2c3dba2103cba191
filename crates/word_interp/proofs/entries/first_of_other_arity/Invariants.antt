use Rattle.std.proofs.Common.{◌≡◌, drop}
use Rattle.std.specs.List.{find}
use Rattle.word_interp.specs.Words.{takes_others}
use Rattle.word_interp.specs.internal.Applied.{given_at}
use Rattle.word_interp.proofs.entries.first_of_other_arity.Given as goal

-- the first one is still to come
abbrev pub invariant-loop-id : goal.invariant-loop-id
invariant-loop-id l =
    find (λ id. takes_others l.domain l.names id (given_at l.given id)) l.needed
    ≡ find (λ id. takes_others l.domain l.names id (given_at l.given id)) (drop l.id-index l.needed)
