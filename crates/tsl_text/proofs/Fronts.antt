-- What a text begins with, and runs of bytes at its front.
use Rattle.std.proofs.Common.{◌≡◌, ℕ, suc, ◌+◌, Bool, true, false, cond, List, [], ◌∷◌, ◌++◌, drop, IsTrue, refl, sym, ap, subst, ◌∙◌, arith}
use Rattle.std.specs.List.{list_all, prefix_len}
use Rattle.std.proofs.lemmas.Bool.{and_parts, false≢true}

-- whether a text begins with a byte that passes a test
abbrev pub begins : (ℕ → Bool) → List ℕ → Bool
begins test [] = false
begins test (byte ∷ bytes) = test byte

-- texts that begin with other bytes are not the same
pub other_front : (test : ℕ → Bool) (u v : List ℕ) → begins test u ≡ false → begins test v ≡ true → u ≡ v → ⊥
other_front test u v h k e = false≢true (sym h ∙ ap (begins test) e ∙ k)

-- a run of bytes that pass a test, up to where one follows that does not, is the only one
pub one_run : (test : ℕ → Bool) (a b u v : List ℕ) → IsTrue (list_all test a) → IsTrue (list_all test b) →
    begins test u ≡ false → begins test v ≡ false → a ++ u ≡ b ++ v → (a ≡ b) × (u ≡ v)
one_run test [] [] u v p q h k e = (refl, e)
one_run test [] (y ∷ b) u v p q h k e =
    let passes = (and_parts (test y) (list_all test b) q).0 in
    let begun : begins test u ≡ test y = ap (begins test) e in
    absurd (cc (passes, begun, h))
one_run test (x ∷ a) [] u v p q h k e =
    let passes = (and_parts (test x) (list_all test a) p).0 in
    let begun : test x ≡ begins test v = ap (begins test) e in
    absurd (cc (passes, begun, k))
one_run test (x ∷ a) (y ∷ b) u v p q h k e =
    let more = one_run test a b u v (and_parts (test x) (list_all test a) p).1 (and_parts (test y) (list_all test b) q).1 h k (cc) in
    let first : x ≡ y = cc in
    let fronts : a ≡ b = more.0 in
    (cc, more.1)

-- after the longest front that passes stands nothing, or a byte that fails
abbrev pub IsStop : (ℕ → Bool) → List ℕ → Type 0
IsStop test [] = Unit {0}
IsStop test (byte ∷ bytes) = test byte ≡ false

pub stop_after_prefix : (test : ℕ → Bool) (bytes : List ℕ) → IsStop test (drop (prefix_len test bytes) bytes)
stop_after_prefix test [] = tt
stop_after_prefix test (b ∷ bs) = by_test (test b) refl (stop_after_prefix test bs)
  where
    by_test : (t : Bool) → test b ≡ t → IsStop test (drop (prefix_len test bs) bs) →
        IsStop test (drop (cond t (1 + prefix_len test bs) 0) (b ∷ bs))
    by_test true e rest =
        let next : suc (prefix_len test bs) ≡ 1 + prefix_len test bs = omega arith in
        subst (λ n. IsStop test (drop n (b ∷ bs))) next rest
    by_test false e rest = e
