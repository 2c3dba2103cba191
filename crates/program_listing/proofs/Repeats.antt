-- A reader that is repeated as often as its test holds.
use Rattle.std.proofs.Common.{◌≡◌, ℕ, zero, suc, ◌<◌, Bool, true, false, cond, List, [], ◌∷◌, ◌++◌, length, Option, Some, None, refl, ap}
use Rattle.std.proofs.Common.{◌∙◌, append_assoc, arith, map, option_map, sym}
use Rattle.std.proofs.lemmas.List.{append-nil, map-append}
use Rattle.program_listing.specs.LineText.{Place}
use Rattle.program_listing.specs.internal.LineReading.{LineReader, Shrinks, with_first, go_on, repeat_most, repeat}

module _ {A : Type 0} where
  module _ (test : List ℕ → Bool) (reader : LineReader A) (shrinks : Shrinks reader) where
    -- more steps than bytes are enough
    enough : (m n : ℕ) (p : Place) → length p.bytes < m → length p.bytes < n →
        repeat_most m test reader p ≡ repeat_most n test reader p
    unfolding repeat_most
    enough zero n p h k = absurd (omega arith)
    enough (suc m) zero p h k = absurd (omega arith)
    enough (suc m) (suc n) p h k = by_test (test p.bytes) (reader p) refl (λ q less. enough m n q (omega (arith, less)) (omega (
      arith,
      less,
    )))
      where
        by_test : (t : Bool) (o : Option (A × Place)) → reader p ≡ o →
            ((q : Place) → length q.bytes < length p.bytes → repeat_most m test reader q ≡ repeat_most n test reader q) →
            go_on p (cond t (Some o) None) (repeat_most m test reader) ≡ go_on p (cond t (Some o) None) (repeat_most n test reader)
        by_test false o e more = refl
        by_test true None e more = refl
        by_test true (Some r) e more = ap (with_first r.0) (more r.1 (shrinks p r.0 r.1 e))

    -- one step, and then the others
    pub repeat_more : (p : Place) (a : A) (q : Place) → test p.bytes ≡ true → reader p ≡ Some (a, q) →
        repeat test reader p ≡ with_first a (repeat test reader q)
    unfolding repeat repeat_most
    repeat_more p a q holds e =
        ap (λ (t : Bool). go_on p (cond t (Some (reader p)) None) (repeat_most (length p.bytes) test reader)) holds
        ∙ ap (λ (o : Option (A × Place)). go_on p (Some o) (repeat_most (length p.bytes) test reader)) e
        ∙ ap (with_first a) (enough (length p.bytes) (suc (length q.bytes)) q (shrinks p a q e) (omega arith))

  module _ (test : List ℕ → Bool) (reader : LineReader A) where
    pub repeat_end : (p : Place) → test p.bytes ≡ false → repeat test reader p ≡ Some ([], p)
    unfolding repeat repeat_most
    repeat_end p fails = ap (λ (t : Bool). go_on p (cond t (Some (reader p)) None) (repeat_most (length p.bytes) test reader)) fails

    pub repeat_wrong : (p : Place) → test p.bytes ≡ true → reader p ≡ None → repeat test reader p ≡ None
    unfolding repeat repeat_most
    repeat_wrong p holds e =
        ap (λ (t : Bool). go_on p (cond t (Some (reader p)) None) (repeat_most (length p.bytes) test reader)) holds
        ∙ ap (λ (o : Option (A × Place)). go_on p (Some o) (repeat_most (length p.bytes) test reader)) e

  -- ---- loops: the values so far, and then those that are read

  abbrev pub joined : List A → Option (List A × Place) → Option (List A × Place)
  joined front read = option_map (λ r. (front ++ r.0, r.1)) read

  joined_more : (front : List A) (a : A) (o : Option (List A × Place)) → joined (front ++ a ∷ []) o ≡ joined front (with_first a o)
  joined_more front a None = refl
  joined_more front a (Some r) = ap (λ (xs : List A). Some (xs, r.1)) (append_assoc front (a ∷ []) r.0)

  -- a loop that keeps what it reads
  module _ {Z : Type 0} (view : Z → A) (test : List ℕ → Bool) (reader : LineReader A) (whole : Option (List A × Place)) where
    -- one more
    pub loop_more : Shrinks reader → (found more : List Z) (z : Z) (p q : Place) → more ≡ found ++ z ∷ [] → test p.bytes ≡ true →
        reader p ≡ Some (view z, q) → joined (map view found) (repeat test reader p) ≡ whole →
        joined (map view more) (repeat test reader q) ≡ whole
    loop_more shrinks found more z p q grown holds read so_far =
        ap (λ (front : List A). joined front (repeat test reader q)) (ap (map view) grown ∙ map-append view found (z ∷ []))
        ∙ joined_more (map view found) (view z) (repeat test reader q)
        ∙ ap (joined (map view found)) (sym (repeat_more test reader shrinks p (view z) q holds read))
        ∙ so_far

    -- its end
    pub loop_end : (found : List Z) (p : Place) → test p.bytes ≡ false → joined (map view found) (repeat test reader p) ≡ whole →
        whole ≡ Some (map view found, p)
    loop_end found p fails so_far =
        sym so_far ∙ ap (joined (map view found)) (repeat_end test reader p fails)
        ∙ ap (λ (xs : List A). Some (xs, p)) (append-nil (map view found))

    -- something else stands where one should
    pub loop_wrong : (found : List Z) (p : Place) → test p.bytes ≡ true → reader p ≡ None →
        joined (map view found) (repeat test reader p) ≡ whole → whole ≡ None
    loop_wrong found p holds none so_far = sym so_far ∙ ap (joined (map view found)) (repeat_wrong test reader p holds none)
