-- How many of the first numbers pass a test.
use Rattle.std.proofs.Common.{◌≡◌, ◌∙◌, ℕ, zero, suc, ◌+◌, ◌<◌, ◌==◌, Bool, true, false, not, ◌&&◌, cond, ap, ap₂, arith, inl, inr, refl}
use Rattle.std.proofs.lemmas.Bool.{cases_eq, eq-eqb, ne_eqb}
use Rattle.std.proofs.Math.Bool.{and-true, and-false}

-- how many of the first numbers pass a test
pub count_below : (ℕ → Bool) → ℕ → ℕ
count_below test zero = 0
count_below test (suc n) = cond (test n) 1 0 + count_below test n

-- there is one less where one of them passes it no more
pub count_less : (old new : ℕ → Bool) (one n : ℕ) → one < n → old one ≡ true → ((k : ℕ) → new k ≡ (old k && not (k == one))) →
    count_below new n < count_below old n
unfolding count_below
count_less old new one zero below passes others = absurd (omega (arith, below))
count_less old new one (suc n) below passes others = elim (cases_eq n one) [
  | inl is ↦ (let e : new n ≡ false = others n ∙ (ap (λ t. old n && not t) (eq-eqb n one is) ∙ and-false (old n)) in
      let f : old n ≡ true = ap old is ∙ passes in
      let s = same_count n (λ k less. others k ∙ (ap (λ t. old k && not t) (ne_eqb k one (λ same. omega (arith, same, less, is))) ∙ and-true (old k))) in
      rw e (rw f (omega (arith, s))))
  | inr apart ↦ (let e : new n ≡ old n = others n ∙ (ap (λ t. old n && not t) (ne_eqb n one apart) ∙ and-true (old n)) in
      let less = count_less old new one n (omega (arith, below, apart)) passes others in
      let f = ap {B = ℕ} (λ b. cond b 1 0) e in
      omega (arith, less, f))
]
  where
    same_count : (n : ℕ) → ((k : ℕ) → k < n → new k ≡ old k) → count_below new n ≡ count_below old n
    same_count zero same = refl
    same_count (suc n) same = ap₂ {C = ℕ} (λ a b. a + b) (ap {B = ℕ} (λ b. cond b 1 0) (same n (omega arith))) (same_count n (λ k less. same k (omega (arith, less))))
