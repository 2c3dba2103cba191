-- An until holds where its right side does, or its left side does and it holds at the position after.
use Rattle.std.proofs.Common.{◌≡◌, ◌∙◌, ℕ, zero, suc, ◌+◌, ◌-◌, ◌<◌, ◌≤◌, inl, inr, Bool, true, ◌&&◌, ◌||◌, sym, ap, arith}
use Rattle.std.proofs.lemmas.Bool.{or_cases, or_left, or_right, and_parts, and_from, false≢true, cases_lt}
use Rattle.base_library.proofs.Booleans.{same_tests}
use Rattle.loop_shape.specs.LoopShape.{LoopShape, IsPosition, after, steps_on, positions_from}
use Rattle.loop_shape.specs.AlongLoop.{holds_until, until_at, ComesAfter}
use Rattle.loop_shape.proofs.Steps.{after_position, turned}

module _ (shape : LoopShape) (a b : ℕ → Bool) where
  comes_of : (n i : ℕ) → holds_until a b (positions_from shape n i) ≡ true → (m : ℕ) × (m < n) × ComesAfter shape a b m i
  comes_of zero i holds = absurd (false≢true holds)
  comes_of (suc n) i holds =
      let rest : Bool = holds_until a b (positions_from shape n (after shape i)) in
      elim (or_cases (b i) (a i && rest) holds) [
        | inl here ↦ (0, omega arith, record { there = here; before = λ k less. absurd (omega arith) })
        | inr later ↦
            let parts = and_parts (a i) rest later in
            let r = comes_of n (after shape i) parts.1 in
            (suc r.0, omega (arith, r.1), record { there = r.2.there; before = each r.0 parts.0 r.2.before })
      ]
    where
      each : (m : ℕ) → a i ≡ true → ((k : ℕ) → k < m → a (steps_on shape k (after shape i)) ≡ true) → (k : ℕ) → k < suc m →
          a (steps_on shape k i) ≡ true
      each m first all zero less = first
      each m first all (suc k) less = all k (omega arith)

  until_of : (m n i : ℕ) → m < n → ComesAfter shape a b m i → holds_until a b (positions_from shape n i) ≡ true
  until_of m zero i less comes = absurd (omega arith)
  until_of zero (suc n) i less comes = or_left (b i) (a i && holds_until a b (positions_from shape n (after shape i))) comes.there
  until_of (suc m) (suc n) i less comes =
      let rest = until_of m n (after shape i) (omega arith)
      (record { there = comes.there; before = λ k h. comes.before (suc k) (omega arith) }) in
      or_right (b i) (a i && holds_until a b (positions_from shape n (after shape i)))
      (and_from (a i) (holds_until a b (positions_from shape n (after shape i))) (comes.before 0 (omega arith)) rest)

  -- what is waited for comes within as many steps as there are positions
  sooner : (room m i : ℕ) → IsPosition shape i → m < room → ComesAfter shape a b m i →
      (s : ℕ) × (s < shape.start + shape.length) × ComesAfter shape a b s i
  sooner zero m i p less comes = absurd (omega arith)
  sooner (suc room) m i p less comes = elim (cases_lt m (shape.start + shape.length)) [
    | inl soon ↦ (m, soon, comes)
    | inr late ↦
        let cut : (m - shape.length) + shape.length ≡ m = omega (arith, late) in
        let back : steps_on shape m i ≡ steps_on shape (m - shape.length) i = ap (λ n. steps_on shape n i) (sym cut)
        ∙ turned shape (m - shape.length) i p (omega (arith, late)) in
        sooner room (m - shape.length) i p (omega (arith, late, p.goes_on))
        (record { there = ap b (sym back) ∙ comes.there; before = λ j before. comes.before j (omega (arith, before)) })
  ]

  pub until_comes : (i : ℕ) → IsPosition shape i → until_at shape a b i ≡ true →
      (n : ℕ) × (n < shape.start + shape.length) × ComesAfter shape a b n i
  until_comes i p holds = let r = comes_of (suc (shape.start + shape.length)) i holds in sooner (suc r.0) r.0 i p (omega arith) r.2

  pub comes_until : (n i : ℕ) → IsPosition shape i → ComesAfter shape a b n i → until_at shape a b i ≡ true
  comes_until n i p comes = let s = sooner (suc n) n i p (omega arith) comes in
      until_of s.0 (suc (shape.start + shape.length)) i (omega (arith, s.1)) s.2

  -- more positions than the loop has tell no more
  enough : (n i : ℕ) → IsPosition shape i → shape.start + shape.length ≤ n →
      holds_until a b (positions_from shape (suc n) i) ≡ holds_until a b (positions_from shape n i)
  enough n i p long = same_tests _ _ down up
    where
      down : holds_until a b (positions_from shape (suc n) i) ≡ true → holds_until a b (positions_from shape n i) ≡ true
      down e = let w = comes_of (suc n) i e in let s = sooner (suc w.0) w.0 i p (omega arith) w.2 in
          until_of s.0 n i (omega (arith, s.1)) s.2

      up : holds_until a b (positions_from shape n i) ≡ true → holds_until a b (positions_from shape (suc n) i) ≡ true
      up e = let w = comes_of n i e in until_of w.0 (suc n) i (omega (arith, w.1)) w.2

  pub until_unrolls : (i : ℕ) → IsPosition shape i → until_at shape a b i ≡ (b i || (a i && until_at shape a b (after shape i)))
  until_unrolls i p =
      ap (λ r. b i || (a i && r)) (sym (enough (shape.start + shape.length) (after shape i) (after_position shape i p) (omega arith)))
