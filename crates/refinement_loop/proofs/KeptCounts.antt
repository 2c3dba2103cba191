-- How many clauses are kept of lists that are joined.
use Rattle.std.proofs.Common.{◌≡◌, ◌∙◌, ℕ, suc, ◌+◌, Bool, true, false, not, cond, List, [], ◌∷◌, ◌++◌, length, Some, slice_get}
use Rattle.std.proofs.Common.{refl, sym, ap, length-append}
use Rattle.std.specs.List.{flat_map, sum_by}
use Rattle.std.proofs.lemmas.List.Sums.{sum_by-cons}
use Rattle.base_library.proofs.Booleans.{same_tests}
use Rattle.clause_core.specs.Literals.{Lit, negation, has}
use Rattle.clause_core.specs.Clauses.{in_order, has_pair}
use Rattle.clause_core.proofs.Sets.{has-in_order, pair_from, has_pair_from}
use Rattle.bounded_encoding.specs.ClauseLists.{kept}
use Rattle.bounded_encoding.proofs.Adding.{kept_both}

-- a pair stands in each list that has the literals
pair_moves : (small large : List Lit) → ((l : Lit) → has small l ≡ true → has large l ≡ true) → has_pair small ≡ true →
    has_pair large ≡ true
pair_moves small large all is =
    let pair = pair_from small is in
    has_pair_from large pair.literal (all pair.literal pair.one) (all (negation pair.literal) pair.other)

has_pair-in_order : (clause : List Lit) → has_pair (in_order clause) ≡ has_pair clause
has_pair-in_order clause = same_tests (has_pair (in_order clause)) (has_pair clause)
    (pair_moves (in_order clause) clause (λ l here. sym (has-in_order clause l) ∙ here))
    (pair_moves clause (in_order clause) (λ l here. has-in_order clause l ∙ here))

-- how many are kept
abbrev pub kept_count : List (List Lit) → ℕ
kept_count clauses = length (kept clauses)

pub count_joined : (xs ys : List (List Lit)) → kept_count (xs ++ ys) ≡ kept_count xs + kept_count ys
count_joined xs ys = ap (λ zs. length zs) (kept_both xs ys) ∙ length-append (kept xs) (kept ys)

pub count_of_all : {X : Type 0} (f : X → List (List Lit)) (xs : List X) → kept_count (flat_map f xs) ≡ sum_by (λ x. kept_count (f x)) xs
count_of_all f [] = refl
count_of_all f (x ∷ xs) =
    count_joined (f x) (flat_map f xs) ∙ ap (λ n. kept_count (f x) + n) (count_of_all f xs) ∙ sym (sum_by-cons (λ y. kept_count (f y)) x xs)

-- as many of the one list as of the other, for each member
pub same_counts : {X : Type 0} (f g : X → List (List Lit)) (xs : List X) →
    ((k : ℕ) (x : X) → slice_get xs k ≡ Some x → kept_count (f x) ≡ kept_count (g x)) →
    kept_count (flat_map f xs) ≡ kept_count (flat_map g xs)
same_counts f g [] each = refl
same_counts f g (x ∷ xs) each =
    count_joined (f x) (flat_map f xs)
    ∙ (λ i. each 0 x refl i + same_counts f g xs (λ k y at. each (suc k) y at) i) ∙ sym (count_joined (g x) (flat_map g xs))

-- one clause
pub same_count_of_one : (c d : List Lit) → has_pair c ≡ has_pair d → kept_count (c ∷ []) ≡ kept_count (d ∷ [])
same_count_of_one c d same =
    counted c ∙ ap (λ t. cond (not t) 1 0) (has_pair-in_order c ∙ same ∙ sym (has_pair-in_order d)) ∙ sym (counted d)
  where
    counted : (clause : List Lit) → kept_count (clause ∷ []) ≡ cond (not (has_pair (in_order clause))) 1 0
    counted clause = by (has_pair (in_order clause))
      where
        by : (t : Bool) → length (cond (not t) (in_order clause ∷ []) []) ≡ cond (not t) 1 0
        by true = refl
        by false = refl
