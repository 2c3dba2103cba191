use Rattle.std.proofs.Common.{◌≡◌, drop}
use Rattle.std.specs.Prelude.{is_some}
use Rattle.std.specs.List.{find}
use Rattle.word_interp.specs.Words.{no_word}
use Rattle.word_interp.specs.internal.Applied.{given_at}
use Rattle.word_interp.proofs.entries.first_too_large.Given as goal

-- the first one is still to come
abbrev pub invariant-loop-id : goal.invariant-loop-id
invariant-loop-id l =
    find (λ id. is_some (no_word l.domain (given_at l.given id))) l.needed
    ≡ find (λ id. is_some (no_word l.domain (given_at l.given id))) (drop l.id-index l.needed)
