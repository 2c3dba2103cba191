-- The clauses that make exactly one of some variables true.
use Rattle.std.proofs.Common.{◌≡◌, ℕ, ◌+◌, ◌-◌, ◌<◌, ◌≤◌, inl, inr, Bool, true, false, not, ◌&&◌, ◌||◌, [], ◌∷◌, map, refl, arith}
use Rattle.std.proofs.lemmas.Bool.{and_parts, and_from, false≢true, cases_lt, cases_eq}
use Rattle.clause_core.specs.Clauses.{is_true, meets, meets_all}
use Rattle.bounded_encoding.specs.ClauseLists.{between}
use Rattle.bounded_encoding.specs.SimpleClauses.{yes_at, no_at, no_two_with, no_two, exactly_one}
use Rattle.bounded_encoding.proofs.Ranges.{all_in_range, all_of_range, any_in_range, any_of_range}

-- of the numbers from a first one to below a last one, one passes a test, and no other
pub record IsOneOf (test : ℕ → Bool) (first last : ℕ) : Type 0 where
  pub some : (x : ℕ) × (first ≤ x) × (x < last) × (test x ≡ true)
  pub one : (x y : ℕ) → first ≤ x → x < last → first ≤ y → y < last → test x ≡ true → test y ≡ true → x ≡ y

-- the clause that not both are true
both_fail : (s t : Bool) → ((not s || (not t || false)) && true) ≡ true → s ≡ true → t ≡ true → ⊥
both_fail true true met here there = false≢true met
both_fail true false met here there = false≢true there
both_fail false t met here there = false≢true here

not_both : (s t : Bool) → (s ≡ true → t ≡ true → ⊥) → ((not s || (not t || false)) && true) ≡ true
not_both true true never = absurd (never refl refl)
not_both true false never = refl
not_both false t never = refl

module _ (a : ℕ → Bool) (at : ℕ → ℕ) (first last : ℕ) where
  never_both : meets_all a (no_two at first last) ≡ true → (x y : ℕ) → first ≤ x → x < y → y < last → a (at x) ≡ true →
      a (at y) ≡ true → ⊥
  never_both met x y from before below here there =
      let under = all_in_range (meets a) (λ x. no_two_with at x last) first (last - first) x met from (omega arith) in
      let clause = all_in_range (meets a) (λ y. (no_at (at x) ∷ no_at (at y) ∷ []) ∷ []) (x + 1) (last - (x + 1)) y under (omega arith)
      (omega arith) in
      both_fail (a (at x)) (a (at y)) clause here there

  pub one_from_clauses : meets_all a (exactly_one at first last) ≡ true → IsOneOf (λ x. a (at x)) first last
  one_from_clauses met =
      let parts = and_parts (meets a (map (λ x. yes_at (at x)) (between first last))) (meets_all a (no_two at first last)) met in
      let found = any_in_range (is_true a) (λ x. yes_at (at x)) first (last - first) parts.0 in
      record {
        some = (found.0, found.1, omega (arith, found.1, found.2), found.3);
        one = λ x y from below from_too below_too here there. elim (cases_eq x y) [
          | inl same ↦ same
          | inr other ↦ (elim (cases_lt x y) [
            | inl before ↦ absurd (never_both parts.1 x y from before below_too here there)
            | inr behind ↦ absurd (never_both parts.1 y x from_too (omega (arith, behind, other)) below there here)
          ])
        ];
      }

  pub clauses_from_one : IsOneOf (λ x. a (at x)) first last → meets_all a (exactly_one at first last) ≡ true
  clauses_from_one is =
      and_from (meets a (map (λ x. yes_at (at x)) (between first last))) (meets_all a (no_two at first last))
      (any_of_range (is_true a) (λ x. yes_at (at x)) first (last - first) is.some.0 is.some.1
      (let in' = is.some.1 in let below = is.some.2 in omega (arith, in', below)) is.some.3)
      (all_of_range (meets a) (λ x. no_two_with at x last) first (last - first) (λ x from below.
      all_of_range (meets a) (λ y. (no_at (at x) ∷ no_at (at y) ∷ []) ∷ []) (x + 1) (last - (x + 1)) (λ y after before.
      not_both (a (at x)) (a (at y)) (λ here there.
      let same = is.one x y from (omega arith) (omega arith) (omega arith) here there in omega (arith, same, after)))))
