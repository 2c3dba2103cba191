-- The members of a list that is made of those of a range for which a function gives something.
use Rattle.std.proofs.Common.{◌≡◌, ◌∙◌, ℕ, zero, suc, ◌+◌, ◌<◌, ◌≤◌, inl, inr, Option, None, Some, Contains}
use Rattle.std.proofs.Common.{refl, ap, arith}
use Rattle.std.specs.List.{cons_option, filter_map, range_with_len}
use Rattle.std.proofs.lemmas.Bool.{cases_lt}
use Rattle.std.proofs.lemmas.Option.{none-some, same_Some}

module _ {X : Type 0} (f : ℕ → Option X) where
  pub given_from : (a n : ℕ) (m : X) → Contains (filter_map f (range_with_len a n)) m →
      (x : ℕ) × (a ≤ x) × (x < a + n) × (f x ≡ Some m)
  given_from a zero m stands = absurd (omega (arith, stands.1))
  given_from a (suc n) m stands = by (f a) refl stands (given_from (a + 1) n m)
    where
      wider : (x : ℕ) × (a + 1 ≤ x) × (x < a + 1 + n) × (f x ≡ Some m) → (x : ℕ) × (a ≤ x) × (x < a + suc n) × (f x ≡ Some m)
      wider r = (r.0, omega (arith, r.1), omega (arith, r.2), r.3)

      by : (o : Option X) → f a ≡ o → Contains (cons_option o (filter_map f (range_with_len (a + 1) n))) m →
          (Contains (filter_map f (range_with_len (a + 1) n)) m → (x : ℕ) × (a + 1 ≤ x) × (x < a + 1 + n) × (f x ≡ Some m)) →
          (x : ℕ) × (a ≤ x) × (x < a + suc n) × (f x ≡ Some m)
      by None is there rest = wider (rest there)
      by (Some y) is (zero, within, same) rest = (a, omega arith, omega arith, is ∙ ap Some same)
      by (Some y) is (suc k, within, same) rest = wider (rest (k, omega arith, same))

  pub given_to : (a n x : ℕ) (m : X) → a ≤ x → x < a + n → f x ≡ Some m → Contains (filter_map f (range_with_len a n)) m
  given_to a zero x m from below is = absurd (omega arith)
  given_to a (suc n) x m from below is = elim (cases_lt a x) [
    | inl later ↦ behind (f a) (given_to (a + 1) n x m (omega arith) (omega arith) is)
    | inr here ↦ front (f a) (ap f (let e : a ≡ x = omega arith in e) ∙ is)
  ]
    where
      front : (o : Option X) → o ≡ Some m → Contains (cons_option o (filter_map f (range_with_len (a + 1) n))) m
      front None never = absurd (none-some m never)
      front (Some y) same = (0, omega arith, same_Some y m same)

      behind : (o : Option X) → Contains (filter_map f (range_with_len (a + 1) n)) m →
          Contains (cons_option o (filter_map f (range_with_len (a + 1) n))) m
      behind None there = there
      behind (Some y) there = (suc there.0, omega (arith, there.1), there.2)
