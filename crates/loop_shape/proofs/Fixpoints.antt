-- An until is the least solution of its unrolling, and a release the greatest.
use Rattle.std.proofs.Common.{◌≡◌, ◌∙◌, ℕ, zero, suc, ◌+◌, Bool, true, false, not, ◌&&◌, ◌||◌, refl, sym, ap, inl, inr}
use Rattle.std.proofs.lemmas.Bool.{or_cases, or_left, or_right, and_parts, and_from, false≢true, false_from_ne_true}
use Rattle.loop_shape.specs.LoopShape.{LoopShape, IsPosition, after, positions_from}
use Rattle.loop_shape.specs.AlongLoop.{holds_until, until_at, release_at}
use Rattle.loop_shape.proofs.Steps.{after_position}

module _ (shape : LoopShape) (a b u : ℕ → Bool) where
  module _ (closed : (j : ℕ) → IsPosition shape j → (b j || (a j && u (after shape j))) ≡ true → u j ≡ true) where
    within : (n i : ℕ) → IsPosition shape i → holds_until a b (positions_from shape n i) ≡ true → u i ≡ true
    within zero i p holds = absurd (false≢true holds)
    within (suc n) i p holds =
        let rest : Bool = holds_until a b (positions_from shape n (after shape i)) in
        elim (or_cases (b i) (a i && rest) holds) [
          | inl here ↦ closed i p (or_left (b i) (a i && u (after shape i)) here)
          | inr later ↦
              let parts = and_parts (a i) rest later in
              closed i p (or_right (b i) (a i && u (after shape i))
              (and_from (a i) (u (after shape i)) parts.0 (within n (after shape i) (after_position shape i p) parts.1)))
        ]

    pub until_least : (i : ℕ) → IsPosition shape i → until_at shape a b i ≡ true → u i ≡ true
    until_least i p holds = within (suc (shape.start + shape.length)) i p holds

pub release_greatest : (shape : LoopShape) (a b u : ℕ → Bool) →
    ((j : ℕ) → IsPosition shape j → u j ≡ true → (b j && (a j || u (after shape j))) ≡ true) →
    (i : ℕ) → IsPosition shape i → u i ≡ true → release_at shape a b i ≡ true
release_greatest shape a b u keeps i p holds = ap not (false_from_ne_true _ (λ until. never until))
  where
    closed : (j : ℕ) → IsPosition shape j → (not (b j) || (not (a j) && not (u (after shape j)))) ≡ true → not (u j) ≡ true
    closed j q step = by (u j) refl (b j) refl (a j) refl (u (after shape j)) refl step
      where
        by : (x : Bool) → u j ≡ x → (d : Bool) → b j ≡ d → (c : Bool) → a j ≡ c → (y : Bool) → u (after shape j) ≡ y →
            (not d || (not c && not y)) ≡ true → not x ≡ true
        by false at d is_b c is_a y is_u test = refl
        by true at d is_b c is_a y is_u test =
            absurd (both d c y ((λ k. sym is_b k && (sym is_a k || sym is_u k)) ∙ keeps j q at) test)
          where
            both : (d c y : Bool) → (d && (c || y)) ≡ true → (not d || (not c && not y)) ≡ true → ⊥
            both true true y h k = false≢true k
            both true false true h k = false≢true k
            both true false false h k = false≢true h
            both false c y h k = false≢true h

    never : until_at shape (λ j. not (a j)) (λ j. not (b j)) i ≡ true → ⊥
    never until =
        false≢true (ap not (sym holds) ∙ until_least shape (λ j. not (a j)) (λ j. not (b j)) (λ j. not (u j)) closed i p until)
