-- Where a sequence first repeats, whose next value goes by the value alone.
-- Source: R. P. Brent: An Improved Monte Carlo Factorization Algorithm (BIT 20, 1980), the search for a cycle.
use Rattle.std.proofs.Common.{◌≡◌, ◌∙◌, ℕ, zero, suc, ◌+◌, ◌-◌, ◌<◌, ◌≤◌, inl, inr, sym, ap, arith}
use Rattle.std.specs.Prelude.{◌≢◌}
use Rattle.std.proofs.lemmas.Bool.{cases_lt}
use Rattle.table_runner.specs.internal.Returns.{IsAway, Returns, IsFirstStart}

module _ {X : Type 0} (at : ℕ → X) (steady : (i j : ℕ) → at i ≡ at j → at (suc i) ≡ at (suc j)) where
  -- what is equal stays equal
  pub together : (k i j : ℕ) → at i ≡ at j → at (i + k) ≡ at (j + k)
  together zero i j same =
      let here : i + 0 ≡ i = omega arith in
      let there : j + 0 ≡ j = omega arith in
      ap at here ∙ same ∙ sym (ap at there)
  together (suc k) i j same =
      let here : i + suc k ≡ suc (i + k) = omega arith in
      let there : j + suc k ≡ suc (j + k) = omega arith in
      ap at here ∙ steady (i + k) (j + k) (together k i j same) ∙ sym (ap at there)

  -- the same, at places that are given by equations
  later : (k i j m n : ℕ) → at i ≡ at j → i + k ≡ m → j + k ≡ n → at m ≡ at n
  later k i j m n same first second = sym (ap at first) ∙ together k i j same ∙ ap at second

  -- two equal values before a step that does not come back so soon
  pub none_within : (t reach i j : ℕ) → IsAway at t reach → i < j → i ≤ t → j ≤ reach → at i ≢ at j
  none_within t reach i j away before within far same =
      away (j - i) (omega (arith, before)) (omega (arith, before, far))
      (sym (later (t - i) i j t (t + (j - i)) same (omega (arith, before, within)) (omega (arith, before, within))))

  module _ (t n start : ℕ) (returns : Returns at t n) (first : IsFirstStart at n start) (within : start ≤ t) where
    -- the distance of two equal values is at least the length of the cycle
    far_apart : (i j : ℕ) → i < j → i ≤ t + n → at i ≡ at j → n ≤ j - i
    far_apart i j before early same = elim (cases_lt (j - i) n) [
      | inl near ↦
          let there : at (t + n) ≡ at ((t + n) + (j - i)) = later ((t + n) - i) i j (t + n) ((t + n) + (j - i)) same
          (omega (arith, early)) (omega (arith, before, early)) in
          let back : at ((t + n) + (j - i)) ≡ at (t + (j - i)) = together (j - i) (t + n) t returns.same in
          absurd (returns.first (j - i) (omega (arith, before)) near (sym back ∙ sym there ∙ returns.same))
      | inr far ↦ far
    ]

    -- no two values before the end of the cycle are equal
    pub all_different : (i j : ℕ) → i < j → j < start + n → at i ≢ at j
    all_different i j before below same =
        let far = far_apart i j before (omega (arith, before, below, within)) same in
        let last : ℕ = start - 1 in
        let p : ℕ = j - i in
        let again : at last ≡ at (last + p) = later (last - i) i j last (last + p) same (omega (arith, far, before, below)) (omega (
          arith,
          far,
          before,
          below,
        )) in
        let round : at (last + n) ≡ at ((last + p) + n) = together n last (last + p) again in
        let cycle : at ((last + p) + n) ≡ at (last + p) = later ((last + p) - start) (start + n) start ((last + p) + n)
        (last + p) first.same
        (omega (arith, far, before, below)) (omega (arith, far, before, below)) in
        first.first last (omega (arith, far, before, below)) (round ∙ cycle ∙ sym again)
