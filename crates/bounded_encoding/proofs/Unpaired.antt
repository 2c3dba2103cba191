-- No clause that is kept has a literal and its negation.
use Rattle.std.proofs.Common.{◌≡◌, Bool, true, false, not, cond, List, [], ◌∷◌, refl}
use Rattle.std.specs.List.{AllByRecursion}
use Rattle.clause_core.specs.Literals.{Lit}
use Rattle.clause_core.specs.Clauses.{in_order, has_pair}
use Rattle.bounded_encoding.specs.ClauseLists.{kept}

pub none_paired : (clauses : List (List Lit)) → AllByRecursion (λ clause. has_pair clause ≡ false) (kept clauses)
none_paired [] = tt
none_paired (c ∷ cs) = by (has_pair (in_order c)) refl (none_paired cs)
  where
    by : (t : Bool) → has_pair (in_order c) ≡ t → AllByRecursion (λ clause. has_pair clause ≡ false) (kept cs) →
        AllByRecursion (λ clause. has_pair clause ≡ false) (cond (not t) (in_order c ∷ kept cs) (kept cs))
    by true paired rest = rest
    by false none rest = (none, rest)
