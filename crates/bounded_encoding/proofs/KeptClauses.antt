-- Clauses in order, and without those that have a pair, are met by the same assignments.
use Rattle.std.proofs.Common.{◌≡◌, ◌∙◌, ℕ, Bool, true, false, not, ◌&&◌, cond, List, [], ◌∷◌, refl, sym, ap}
use Rattle.std.specs.List.{list_any, list_all}
use Rattle.base_library.proofs.Booleans.{same_tests}
use Rattle.clause_core.specs.Literals.{Lit, negation, has}
use Rattle.clause_core.specs.Clauses.{in_order, has_pair, is_true, meets, meets_all}
use Rattle.clause_core.proofs.Sets.{any_has, any_from_has, has-in_order, pair_from}
use Rattle.bounded_encoding.specs.ClauseLists.{kept}

-- lists with the same literals
any_of_same : (p : Lit → Bool) (xs ys : List Lit) → ((l : Lit) → has xs l ≡ true → has ys l ≡ true) → list_any p xs ≡ true →
    list_any p ys ≡ true
any_of_same p xs ys all some = let found = any_has p xs some in any_from_has p ys found.0 (all found.0 found.1) found.2

pub meets-in_order : (a : ℕ → Bool) (clause : List Lit) → meets a (in_order clause) ≡ meets a clause
meets-in_order a clause = same_tests (meets a (in_order clause)) (meets a clause)
    (any_of_same (is_true a) (in_order clause) clause (λ l here. sym (has-in_order clause l) ∙ here))
    (any_of_same (is_true a) clause (in_order clause) (λ l here. has-in_order clause l ∙ here))

-- of a literal and its negation one is true
one_of_pair : (a : ℕ → Bool) (l : Lit) → is_true a l ≡ false → is_true a (negation l) ≡ true
one_of_pair a l = by (a l.index) l.positive
  where
    by : (t p : Bool) → cond p t (not t) ≡ false → cond (not p) t (not t) ≡ true
    by true true h = absurd cc
    by true false h = refl
    by false true h = refl
    by false false h = absurd cc

pub pair_is_met : (a : ℕ → Bool) (clause : List Lit) → has_pair clause ≡ true → meets a clause ≡ true
pair_is_met a clause is = let pair = pair_from clause is in by (is_true a pair.literal) refl
  where
    by : (t : Bool) → is_true a (pair_from clause is).literal ≡ t → meets a clause ≡ true
    by true holds = any_from_has (is_true a) clause (pair_from clause is).literal (pair_from clause is).one holds
    by false fails = any_from_has (is_true a) clause (negation (pair_from clause is).literal) (pair_from clause is).other
        (one_of_pair a (pair_from clause is).literal fails)

-- nothing is lost
pub kept_meets : (a : ℕ → Bool) (clauses : List (List Lit)) → meets_all a (kept clauses) ≡ meets_all a clauses
kept_meets a [] = refl
kept_meets a (clause ∷ clauses) = by (has_pair (in_order clause)) refl (kept_meets a clauses)
  where
    by : (t : Bool) → has_pair (in_order clause) ≡ t → meets_all a (kept clauses) ≡ meets_all a clauses →
        list_all (meets a) (cond (not t) (in_order clause ∷ kept clauses) (kept clauses)) ≡ (meets a clause && meets_all a clauses)
    by true pair rest =
        rest ∙ ap (λ t. t && meets_all a clauses) (sym (pair_is_met a (in_order clause) pair) ∙ meets-in_order a clause)
    by false none rest = λ i. meets-in_order a clause i && rest i
