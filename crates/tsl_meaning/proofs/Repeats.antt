-- Among more numbers than a limit, all below it, one stands twice; and digits tell a number apart.
use Rattle.std.proofs.Common.{◌≡◌, ℕ, zero, suc, ◌+◌, ◌*◌, ◌<◌, ◌≤◌, ◌⊎◌, true, false, List, [], ◌∷◌, length, eqb}
use Rattle.std.proofs.Common.{refl, sym, ap, subst, arith, inl, inr}
use Rattle.std.specs.Prelude.{fold}
use Rattle.std.specs.List.{list_any, IsDistinct, AllByRecursion}
use Rattle.std.proofs.lemmas.Bool.{or_cases, or_parts, cases_Bool, cases_order, eqb-true, false≢true}
use Rattle.std.proofs.lemmas.Map.Steps.{length-le_from_distinct_below}
use Rattle.std.proofs.Math.Nat.{mul-le-mul_right, add-mul}

-- two places with one value
pub record Repeats (f : ℕ → ℕ) (n : ℕ) : Type 0 where
  pub first : ℕ
  pub second : ℕ
  pub before : first < second
  pub within : second < n
  pub same : f first ≡ f second

module _ (f : ℕ → ℕ) where
  -- the values at the numbers below one, the last one first
  values_below : ℕ → List ℕ
  values_below zero = []
  values_below (suc n) = f n ∷ values_below n

  length-values : (n : ℕ) → length (values_below n) ≡ n
  unfolding values_below
  length-values zero = refl
  length-values (suc n) = ap suc (length-values n)

  value_place : (q n : ℕ) → list_any (eqb q) (values_below n) ≡ true → (i : ℕ) × (i < n) × (q ≡ f i)
  unfolding values_below
  value_place q zero some = absurd (false≢true some)
  value_place q (suc n) some = elim (or_cases (eqb q (f n)) (list_any (eqb q) (values_below n)) some) [
    | inl here ↦ (n, omega arith, eqb-true q (f n) here)
    | inr later ↦ (let r = value_place q n later in (r.0, omega (arith, r.1), r.2))
  ]

  none_same : (q : ℕ) (xs : List ℕ) → list_any (eqb q) xs ≡ false → AllByRecursion (λ y. eqb q y ≡ false) xs
  none_same q [] none = tt
  none_same q (x ∷ xs) none = let parts = or_parts (eqb q x) (list_any (eqb q) xs) none in (parts.0, none_same q xs parts.1)

  repeats_or_distinct : (n : ℕ) → Repeats f n ⊎ IsDistinct eqb (values_below n)
  unfolding values_below IsDistinct
  repeats_or_distinct zero = inr tt
  repeats_or_distinct (suc n) = elim (repeats_or_distinct n) [
    | inl r ↦ inl (record { first = r.first; second = r.second; before = r.before; within = omega (arith, r.within); same = r.same })
    | inr distinct ↦ elim (cases_Bool (list_any (eqb (f n)) (values_below n))) [
      | inl some ↦
          let at = value_place (f n) n some in
          inl (record { first = at.0; second = n; before = at.1; within = omega arith; same = sym at.2 })
      | inr none ↦ inr (none_same (f n) (values_below n) none, distinct)
    ]
  ]

  pub repeats : (limit : ℕ) → ((n : ℕ) → f n < limit) → Repeats f (suc limit)
  repeats limit below = elim (repeats_or_distinct (suc limit)) [
    | inl r ↦ r
    | inr distinct ↦
        let few = length-le_from_distinct_below (values_below (suc limit)) limit distinct (λ q some.
        let at = value_place q (suc limit) some in
        subst (λ m. m < limit) (sym at.2) (below at.0)) in
        absurd (omega (arith, few, length-values (suc limit)))
  ]

-- what a number and a digit after it tell
pub one_digit : (d a b v w : ℕ) → v < d → w < d → a * d + v ≡ b * d + w → (a ≡ b) × (v ≡ w)
one_digit d a b v w v_below w_below same = elim (cases_order a b) [
  | inl e ↦ (e, (let m : a * d ≡ b * d = ap (λ n. n * d) e in omega (arith, m, same)))
  | inr apart ↦ elim apart [
    | inl less ↦
        let more : (a + 1) * d ≤ b * d = mul-le-mul_right d (let l : a + 1 ≤ b = omega (arith, less) in l) in
        absurd (omega (arith, more, add-mul a 1 d, same, v_below))
    | inr less ↦
        let more : (b + 1) * d ≤ a * d = mul-le-mul_right d (let l : b + 1 ≤ a = omega (arith, less) in l) in
        absurd (omega (arith, more, add-mul b 1 d, same, w_below))
  ]
]

pub one_row : (d n m : ℕ) (vs ws : List ℕ) → length vs ≡ length ws → AllByRecursion (λ v. v < d) vs → AllByRecursion (λ v. v < d) ws →
    fold (λ k v. k * d + v) n vs ≡ fold (λ k v. k * d + v) m ws → (n ≡ m) × (vs ≡ ws)
one_row d n m [] [] count first second same = (same, refl)
one_row d n m [] (w ∷ ws) count first second same = absurd (omega (arith, count))
one_row d n m (v ∷ vs) [] count first second same = absurd (omega (arith, count))
one_row d n m (v ∷ vs) (w ∷ ws) count first second same =
    let rest = one_row d (n * d + v) (m * d + w) vs ws (omega (arith, count)) first.1 second.1 same in
    let here = one_digit d n m v w first.0 second.0 rest.0 in
    (here.0, λ i. here.1 i ∷ rest.1 i)
