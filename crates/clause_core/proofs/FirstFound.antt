-- Looking for the first member that passes a test, place by place.
use Rattle.std.proofs.Common.{◌≡◌, ℕ, suc, ◌+◌, Bool, true, false, cond, not, List, ◌∷◌, length, drop, ap, ◌∙◌, arith}
use Rattle.std.specs.Prelude.{Some, None, slice_get, position}
use Rattle.std.specs.List.{position_or_len}
use Rattle.std.proofs.Math.Dec.{ltb}
use Rattle.std.proofs.Math.Seq.{drop-cons}
use Rattle.std.proofs.lemmas.Bool.{lt-ltb}
use Rattle.std.proofs.lemmas.Option.{slice_get_within, get_or_from_slice_get}

module _ {X : Type 0} (test : X → Bool) (xs : List X) (i : ℕ) (x : X) (there : slice_get xs i ≡ Some x)
    (before : position_or_len test xs ≡ i + position_or_len test (drop i xs)) where
  left : drop i xs ≡ x ∷ drop (i + 1) xs
  left =
      let next : suc i ≡ i + 1 = omega (arith) in
      drop-cons xs i x (slice_get_within xs i x there) ∙ ap (λ y. y ∷ drop (suc i) xs) (get_or_from_slice_get xs i x x there)
      ∙ ap (λ n. x ∷ drop n xs) next

  step : (b : Bool) → test x ≡ b → position_or_len test xs ≡ i + cond (not b) (1 + position_or_len test (drop (i + 1) xs)) 0
  step b is = before ∙ ap (λ ys. i + position_or_len test ys) left
      ∙ ap (λ p. i + cond (not p) (1 + position_or_len test (drop (i + 1) xs)) 0) is

  -- it is the one at this place
  pub found_here : test x ≡ true → position test xs ≡ Some i
  found_here passes =
      let place : position_or_len test xs ≡ i = omega (arith, step true passes) in
      ap (λ n. cond (ltb n (length xs)) (Some n) None) place
      ∙ ap (λ b. cond b (Some i) None) (lt-ltb i (length xs) (slice_get_within xs i x there))

  -- it stands behind this place
  pub found_later : test x ≡ false → position_or_len test xs ≡ i + 1 + position_or_len test (drop (i + 1) xs)
  found_later fails = omega (arith, step false fails)
