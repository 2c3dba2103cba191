-- The pair of a clause, or none, by its two literals.
use Rattle.std.proofs.Common.{◌≡◌, Some, None, cond}
use Rattle.std.proofs.lemmas.Bool.{cond-true, cond-false, false_from_ne_true}
use Rattle.clause_core.specs.Literals.{same}
use Rattle.clause_core.proofs.Sets.{same_is, same_from}
use Rattle.sat_trail.specs.declared.watches.Pair.{Pair}

pub empty_slot : (pair : Pair) → pair.first ≡ pair.second → cond (same pair.first pair.second) None (Some pair) ≡ None
empty_slot pair is = cond-true (same pair.first pair.second) None (Some pair) (same_from pair.first pair.second is)

pub full_slot : (pair : Pair) → (pair.first ≡ pair.second → ⊥) → cond (same pair.first pair.second) None (Some pair) ≡ Some pair
full_slot pair apart = cond-false (same pair.first pair.second) None (Some pair)
    (false_from_ne_true (same pair.first pair.second) (λ s. apart (same_is pair.first pair.second s)))
