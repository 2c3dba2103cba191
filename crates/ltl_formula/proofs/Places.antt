-- In a rising list the order of two members is that of their places.
use Rattle.std.proofs.Common.{◌≡◌, ◌∙◌, ℕ, zero, suc, ◌<◌, Bool, true, false, cond, ◌==◌, List, [], ◌∷◌, Some, slice_get, refl, sym, ap}
use Rattle.std.proofs.Common.{arith, eq-eqb}
use Rattle.std.specs.List.{AllByRecursion}
use Rattle.std.specs.declared.cmp.Ordering.{Ordering}
use Rattle.std.specs.declared.cmp.Ordering.TheVariants.{Less, Equal, Greater}
use Rattle.std.specs.Ordering.{nat_cmp, ordering_reverse, MatchOrdering}
use Rattle.std.specs.Cmp.{IsTotalOrder}
use Rattle.std.proofs.lemmas.Cmp.{ranked, tied_itself}
use Rattle.std.proofs.lemmas.Bool.{lt-ltb, le-ltb, eqb-true}
use Rattle.std.proofs.lemmas.Option.{none-some, same_Some}
use Rattle.ltl_formula.specs.Increasing.{IsIncreasing}

less : (i j : ℕ) → i < j → nat_cmp i j ≡ Less
less i j h = ap (λ b. cond b Less (cond (i == j) Equal Greater)) (lt-ltb i j h)

itself : (i : ℕ) → nat_cmp i i ≡ Equal
itself i = rw (le-ltb i i (omega arith), eq-eqb i i refl) refl

-- unequal numbers, as the test tells them
differ : (i j : ℕ) → (i ≡ j → ⊥) → (i == j) ≡ false
differ i j apart = by (i == j) refl
  where
    by : (b : Bool) → (i == j) ≡ b → b ≡ false
    by false e = refl
    by true e = absurd (apart (eqb-true i j e))

more : (i j : ℕ) → j < i → nat_cmp i j ≡ Greater
more i j h = rw (le-ltb i j (omega arith), differ i j (λ e. omega arith)) refl

by_rank : (i j : ℕ) (o : Ordering) → MatchOrdering o (i < j) (i ≡ j) (j < i) → o ≡ nat_cmp (suc i) (suc j)
by_rank i j Less r = sym (less (suc i) (suc j) (omega (arith, r)))
by_rank i j Equal r = sym (itself (suc i)) ∙ ap (λ k. nat_cmp (suc i) (suc k)) r
by_rank i j Greater r = sym (more (suc i) (suc j) (omega (arith, r)))

module _ {A : Type 0} {cmp : A → A → Ordering} (total : IsTotalOrder cmp) where
  above : (x : A) (ys : List A) (j : ℕ) (y : A) → AllByRecursion (λ z. cmp x z ≡ Less) ys → slice_get ys j ≡ Some y → cmp x y ≡ Less
  above x [] j y all at = absurd (none-some y at)
  above x (z ∷ ys) zero y all at = ap (cmp x) (sym (same_Some z y at)) ∙ all.0
  above x (z ∷ ys) (suc j) y all at = above x ys j y all.1 at

  pub by_place : (xs : List A) → IsIncreasing cmp xs → (i j : ℕ) (x y : A) → slice_get xs i ≡ Some x → slice_get xs j ≡ Some y →
      cmp x y ≡ nat_cmp i j
  by_place [] up i j x y at_i at_j = absurd (none-some x at_i)
  by_place (z ∷ xs) up zero zero x y at_i at_j =
      (λ k. cmp (sym (same_Some z x at_i) k) (sym (same_Some z y at_j) k)) ∙ tied_itself total z
  by_place (z ∷ xs) up zero (suc j) x y at_i at_j =
      ap (λ w. cmp w y) (sym (same_Some z x at_i)) ∙ above z xs j y up.0 at_j ∙ sym (less zero (suc j) (omega arith))
  by_place (z ∷ xs) up (suc i) zero x y at_i at_j =
      total.antisymm x y ∙ ap ordering_reverse (ap (λ w. cmp w x) (sym (same_Some z y at_j)) ∙ above z xs i x up.0 at_i)
      ∙ sym (more (suc i) zero (omega arith))
  by_place (z ∷ xs) up (suc i) (suc j) x y at_i at_j =
      by_place xs up.1 i j x y at_i at_j ∙ by_rank i j (nat_cmp i j) (ranked i j (nat_cmp i j) refl)
