-- Sets of numbers: which key an entry of the set is at.
use Rattle.std.proofs.Common.{◌≡◌, ℕ, Bool, true, false, cond, refl, sym, ap, ◌∙◌, eqb, ltb, inl, inr, arith}
use Rattle.std.specs.BTreeMap.{is_at}
use Rattle.std.specs.Ordering.{nat_cmp, is_eq}
use Rattle.std.specs.declared.cmp.Ordering.TheVariants.{Less, Equal, Greater}
use Rattle.std.proofs.lemmas.Bool.{false≢true, cases_eq, eq-eqb, ne_eqb, ltb-true}

-- a key is at itself, and at no other
pub apart_at : (p k : ℕ) → (k ≡ p → ⊥) → is_at (nat_cmp p) k ≡ false
apart_at p k n = by_test (ltb p k)
  where
    by_test : (b : Bool) → is_eq (cond b Less (cond (eqb p k) Equal Greater)) ≡ false
    by_test true = refl
    by_test false = ap (λ b. is_eq (cond b Equal Greater)) (ne_eqb p k (λ e. n (sym e)))

-- the one that is looked for is found
pub same_at : (k : ℕ) → is_at (nat_cmp k) k ≡ true
same_at k = by_test (ltb k k) refl
  where
    by_test : (b : Bool) → ltb k k ≡ b → is_eq (cond b Less (cond (eqb k k) Equal Greater)) ≡ true
    by_test true h = absurd (omega (arith, ltb-true k k h))
    by_test false h = ap (λ b. is_eq (cond b Equal Greater)) (eq-eqb k k refl)

pub at_is : (p k : ℕ) → is_at (nat_cmp p) k ≡ true → k ≡ p
at_is p k h = elim (cases_eq k p) [ inl e ↦ e | inr n ↦ absurd (false≢true (sym (apart_at p k n) ∙ h)) ]
