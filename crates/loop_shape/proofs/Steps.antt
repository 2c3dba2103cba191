-- Where steps along a loop lead: a turn leads back to each position of the part that goes round.
use Rattle.std.proofs.Common.{◌≡◌, ◌∙◌, ℕ, zero, suc, ◌+◌, ◌-◌, ◌<◌, ◌≤◌, Bool, true, if◌then◌else◌, refl, sym, ap, arith, inl, inr}
use Rattle.std.specs.List.{list_all}
use Rattle.std.proofs.lemmas.Bool.{eq-eqb, and_from}
use Rattle.std.proofs.lemmas.Bool.Decides.{eqb_tells}
use Rattle.loop_shape.specs.LoopShape.{LoopShape, IsPosition, after, steps_on, positions_from}

module _ (shape : LoopShape) where
  -- the last position goes on to the start, and each other one to the next
  pub last : (i : ℕ) → i + 1 ≡ shape.start + shape.length → after shape i ≡ shape.start
  last i is = ap (λ b. if b then shape.start else i + 1) (eq-eqb (i + 1) (shape.start + shape.length) is)

  pub onward : (i : ℕ) → i + 1 < shape.start + shape.length → after shape i ≡ suc i
  onward i below = elim (eqb_tells (i + 1) (shape.start + shape.length)) [
    | inl same ↦ absurd (omega (arith, same.1))
    | inr other ↦ ap (λ b. if b then shape.start else i + 1) other.0 ∙ omega arith
  ]

  pub after_position : (i : ℕ) → IsPosition shape i → IsPosition shape (after shape i)
  after_position i p = elim (eqb_tells (i + 1) (shape.start + shape.length)) [
    | inl same ↦ record { goes_on = p.goes_on; within = omega (arith, last i same.1, p.goes_on) }
    | inr other ↦ record { goes_on = p.goes_on; within = omega (arith, onward i (omega (arith, other.1, p.within)), other.1, p.within) }
  ]

  pub steps_on-add : (m n i : ℕ) → steps_on shape (m + n) i ≡ steps_on shape n (steps_on shape m i)
  steps_on-add zero n i = let e : 0 + n ≡ n = omega arith in ap (λ k. steps_on shape k i) e
  steps_on-add (suc m) n i =
      let e : suc m + n ≡ suc (m + n) = omega arith in
      ap (λ k. steps_on shape k i) e ∙ steps_on-add m n (after shape i)

  straight : (n i : ℕ) → i + n < shape.start + shape.length → steps_on shape n i ≡ i + n
  straight zero i below = omega arith
  straight (suc n) i below = ap (steps_on shape n) (onward i (omega arith)) ∙ straight n (suc i) (omega arith) ∙ omega arith

  -- from the part that goes round, a turn leads back
  turn : 1 ≤ shape.length → (r : ℕ) → r < shape.length → steps_on shape shape.length (shape.start + r) ≡ shape.start + r
  turn goes_on r below =
      let to_last : steps_on shape (shape.length - r - 1) (shape.start + r) ≡ shape.start + shape.length - 1 =
      straight (shape.length - r - 1) (shape.start + r) (omega arith) ∙ omega arith in
      let cut : (shape.length - r - 1) + (1 + r) ≡ shape.length = omega arith in
      let one : 1 + r ≡ suc r = omega arith in
      let round : after shape (shape.start + shape.length - 1) ≡ shape.start = last (shape.start + shape.length - 1) (omega arith) in
      ap (λ k. steps_on shape k (shape.start + r)) (sym cut) ∙ steps_on-add (shape.length - r - 1) (1 + r) (shape.start + r)
      ∙ ap (steps_on shape (1 + r)) to_last
      ∙ ap (λ k. steps_on shape k (shape.start + shape.length - 1)) one ∙ ap (steps_on shape r) round ∙ straight r shape.start (omega arith)

  -- after as many steps as come once, the position is in the part that goes round
  in_turn : (n i : ℕ) → IsPosition shape i → shape.start ≤ i + n →
      (shape.start ≤ steps_on shape n i) × (steps_on shape n i < shape.start + shape.length)
  in_turn zero i p far = (omega arith, p.within)
  in_turn (suc n) i p far = in_turn n (after shape i) (after_position i p) (elim (eqb_tells (i + 1) (shape.start + shape.length)) [
    | inl same ↦ omega (arith, last i same.1)
    | inr other ↦ omega (arith, onward i (omega (arith, other.1, p.within)))
  ])

  pub turned : (n i : ℕ) → IsPosition shape i → shape.start ≤ n → steps_on shape (n + shape.length) i ≡ steps_on shape n i
  turned n i p far =
      let there = in_turn n i p (omega arith) in
      let at : shape.start + (steps_on shape n i - shape.start) ≡ steps_on shape n i = omega (arith, there.0, there.1) in
      steps_on-add n shape.length i ∙ ap (steps_on shape shape.length) (sym at)
      ∙ turn p.goes_on (steps_on shape n i - shape.start) (omega (arith, there.0, there.1)) ∙ at

  -- what holds at each position holds at so many from a position on
  pub list_all-positions : (a : ℕ → Bool) (n i : ℕ) → IsPosition shape i → ((j : ℕ) → IsPosition shape j → a j ≡ true) →
      list_all a (positions_from shape n i) ≡ true
  list_all-positions a zero i p holds = refl
  list_all-positions a (suc n) i p holds =
      and_from (a i) (list_all a (positions_from shape n (after shape i))) (holds i p)
      (list_all-positions a n (after shape i) (after_position i p) holds)
