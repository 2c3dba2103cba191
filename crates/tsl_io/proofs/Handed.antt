-- Bytes that are handed on, one piece after another.
use Rattle.std.proofs.Common.{◌≡◌, ℕ, ◌+◌, List, [], ◌++◌, Option, Some, sym, ap, subst, ◌∙◌, arith, length-append, append_assoc, append-nil}
use Rattle.tsl_io.specs.Told.{before}
use Rattle.tsl_io.specs.Handed.{HandsOn}
use Rattle.tsl_io.proofs.Told.{before-before}

-- two pieces are one
pub hands_more : (m n : ℕ) (first told rest : Option (List ℕ)) (had now has : List ℕ → Type 0) → HandsOn m first told had now →
    HandsOn n told rest now has → HandsOn (m + n) first rest had has
hands_more m n first told rest had now has so_far more = (
  so_far.0 ++ more.0,
  omega (arith, length-append so_far.0 more.0, so_far.1, more.1),
  so_far.2 ∙ ap (before so_far.0) more.2 ∙ before-before so_far.0 more.0 rest,
  λ text h. subst has (append_assoc text so_far.0 more.0) (more.3 (text ++ so_far.0) (so_far.3 text h)),
)

-- what was kept is the whole, where no byte is left
pub whole_kept : (kept start bytes all : List ℕ) (told rest : Option (List ℕ)) → kept ≡ start ++ bytes → start ≡ [] → told ≡ before bytes rest →
    rest ≡ Some [] → told ≡ Some all → kept ≡ all
whole_kept kept start bytes all told rest is empty taken none some =
    let e : Some (bytes ++ []) ≡ Some all = sym (taken ∙ ap (before bytes) none) ∙ some in
    is ∙ ap (λ xs. xs ++ bytes) empty ∙ sym (append-nil bytes) ∙ (cc)
