-- The clauses that numbers name.
use Rattle.std.proofs.Common.{◌≡◌, ℕ, zero, suc, ◌+◌, ◌<◌, ◌≤◌, Bool, true, false, cond, eqb, List, [], ◌∷◌, ◌++◌, map, length, get_or}
use Rattle.std.proofs.Common.{Some, None, AllPairs, ap, ◌∙◌, subst, refl, arith, inl, inr}
use Rattle.std.specs.List.{AllWithin}
use Rattle.std.proofs.lemmas.Bool.{cond-true, cond-false, ne_eqb, eq-eqb, cases_lt}
use Rattle.std.proofs.lemmas.List.{get_or_default}
use Rattle.clause_core.specs.Literals.{Lit}
use Rattle.refutation_check.specs.declared.steps.Step.{Step}
use Rattle.refutation_check.specs.Checking.{Numbered, numbered_from, clause_named}
use Rattle.refutation_check.specs.internal.Accepted.{numbered}

-- a number at the front, and another one
pub named_first : (k : Numbered) (known : List Numbered) (n : ℕ) → k.number ≡ n → clause_named (k ∷ known) n ≡ Some k.clause
named_first k known n e = cond-true (eqb k.number n) (Some k.clause) (clause_named known n) (eq-eqb k.number n e)

pub named_later : (k : Numbered) (known : List Numbered) (n : ℕ) → (k.number ≡ n → ⊥) → clause_named (k ∷ known) n ≡ clause_named known n
named_later k known n e = cond-false (eqb k.number n) (Some k.clause) (clause_named known n) (ne_eqb k.number n e)

pub named_left : (xs ys : List Numbered) (n : ℕ) → clause_named ys n ≡ None → clause_named (xs ++ ys) n ≡ clause_named xs n
named_left [] ys n none = none
named_left (x ∷ xs) ys n none = ap (λ o. cond (eqb x.number n) (Some x.clause) o) (named_left xs ys n none)

pub named_right : (xs ys : List Numbered) (n : ℕ) → clause_named xs n ≡ None → clause_named (xs ++ ys) n ≡ clause_named ys n
named_right [] ys n none = refl
named_right (x ∷ xs) ys n none = by_test (eqb x.number n) none (named_right xs ys n)
  where
    by_test : (b : Bool) → cond b (Some x.clause) (clause_named xs n) ≡ None →
        (clause_named xs n ≡ None → clause_named (xs ++ ys) n ≡ clause_named ys n) →
        cond b (Some x.clause) (clause_named (xs ++ ys) n) ≡ clause_named ys n
    by_test true h rest = absurd cc
    by_test false h rest = rest h

-- ---- clauses of the formula

pub named_at : (clauses : List (List Lit)) (k i n : ℕ) (d : List Lit) → i < length clauses → n ≡ k + i →
    clause_named (numbered_from k clauses) n ≡ Some (get_or clauses i d)
named_at [] k i n d below e = absurd (omega arith)
named_at (c ∷ cs) k zero n d below e = named_first (record { number = k; clause = c }) (numbered_from (suc k) cs) n (omega arith)
named_at (c ∷ cs) k (suc i) n d below e =
    named_later (record { number = k; clause = c }) (numbered_from (suc k) cs) n (λ (h : k ≡ n). omega arith)
    ∙ named_at cs (suc k) i n d (omega arith) (omega arith)

pub named_outside : (clauses : List (List Lit)) (k n : ℕ) → (k ≤ n → n < k + length clauses → ⊥) →
    clause_named (numbered_from k clauses) n ≡ None
named_outside [] k n out = refl
named_outside (c ∷ cs) k n out =
    named_later (record { number = k; clause = c }) (numbered_from (suc k) cs) n (λ (h : k ≡ n). out (omega arith) (omega arith))
    ∙ named_outside cs (suc k) n (λ a b. out (omega arith) (omega arith))

-- ---- clauses of steps

pub named_step : (steps : List Step) (n p : ℕ) (d : Step) → p < length steps → AllWithin (λ s. s.number < n) steps 0 p →
    (get_or steps p d).number ≡ n → clause_named (map numbered steps) n ≡ Some (get_or steps p d).clause
named_step [] n p d within below e = absurd (omega arith)
named_step (s ∷ ss) n zero d within below e = named_first (numbered s) (map numbered ss) n e
named_step (s ∷ ss) n (suc p) d within below e =
    named_later (numbered s) (map numbered ss) n (λ (h : s.number ≡ n). omega (arith, below 0 d (omega arith) (omega arith)))
    ∙ named_step ss n p d (omega arith) (λ k d' low high. below (suc k) d' (omega arith) (omega arith)) e

pub named_no_step : (steps : List Step) (n : ℕ) → ((k : ℕ) (d : Step) → k < length steps → (get_or steps k d).number ≡ n → ⊥) →
    clause_named (map numbered steps) n ≡ None
named_no_step [] n none = refl
named_no_step (s ∷ ss) n none = named_later (numbered s) (map numbered ss) n (none 0 s (omega arith))
    ∙ named_no_step ss n (λ k d within. none (suc k) d (omega arith))

-- the steps before a place have smaller numbers
pub below_through : (steps : List Step) (n m : ℕ) (d : Step) → AllPairs (λ a b. a.number < b.number) steps → m < length steps →
    (get_or steps m d).number < n → AllWithin (λ s. s.number < n) steps 0 (m + 1)
below_through steps n m d rise within below k e low high =
    elim (cases_lt k m) [
      | inl before ↦ omega (arith, rise k m d before within, below, ap (λ (s : Step). s.number) (get_or_default steps k d e (omega arith)))
      | inr at ↦ subst (λ j. (get_or steps j e).number < n) (let j : m ≡ k = omega arith in
          j) (subst (λ (s : Step). s.number < n) (get_or_default steps m d e within) below)
    ]

-- the steps from a place on have numbers as large
pub above_from : (steps : List Step) (n m : ℕ) (d : Step) → AllPairs (λ a b. a.number < b.number) steps → m < length steps →
    n ≤ (get_or steps m d).number → AllWithin (λ s. n ≤ s.number) steps m (length steps)
above_from steps n m d rise within above k e low high =
    elim (cases_lt m k) [
      | inl behind ↦ omega (arith, rise m k e behind high, above, ap (λ (s : Step). s.number) (get_or_default steps m d e within))
      | inr at ↦ subst (λ j. n ≤ (get_or steps j e).number) (let j : m ≡ k = omega arith in
          j) (subst (λ (s : Step). n ≤ s.number) (get_or_default steps m d e within) above)
    ]

-- no step has a number that the step at its place does not have
pub no_number : (steps : List Step) (n p : ℕ) → AllPairs (λ a b. a.number < b.number) steps → AllWithin (λ s. s.number < n) steps 0 p →
    AllWithin (λ s. n ≤ s.number) steps p (length steps) → ((d : Step) → p < length steps → (get_or steps p d).number ≡ n → ⊥) →
    (k : ℕ) (d : Step) → k < length steps → (get_or steps k d).number ≡ n → ⊥
no_number steps n p rise below above other k d within e =
    elim (cases_lt k p) [
      | inl before ↦ omega (arith, below k d (omega arith) before)
      | inr from ↦ elim (cases_lt p k) [
        | inl behind ↦ omega (arith, above p d (omega arith) (omega arith), rise p k d behind within)
        | inr at ↦ other d (omega arith) (subst (λ j. (get_or steps j d).number ≡ n) (let j : k ≡ p = omega arith in j) e)
      ]
    ]
