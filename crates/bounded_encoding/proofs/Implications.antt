-- Clauses as implications between the variables with some indices.
use Rattle.std.proofs.Common.{◌≡◌, ◌∙◌, ℕ, ◌+◌, ◌-◌, ◌<◌, ◌≤◌, Bool, true, false, not, ◌&&◌, ◌||◌, cond, List, [], ◌∷◌, ◌++◌, map, filter}
use Rattle.std.proofs.Common.{refl, sym, ap, arith, leb}
use Rattle.std.specs.Prelude.{nat_le}
use Rattle.std.proofs.lemmas.Bool.{false≢true, leb-true, le-leb, false_from_ne_true}
use Rattle.std.proofs.lemmas.List.Folds.{list_any-append}
use Rattle.base_library.proofs.Passes.{list_any-map, list_any_place, list_any_contained}
use Rattle.base_library.proofs.Places.{contains_at}
use Rattle.clause_core.specs.Literals.{Lit}
use Rattle.clause_core.specs.Clauses.{is_true, meets, meets_all}
use Rattle.bounded_encoding.specs.ClauseLists.{below}
use Rattle.bounded_encoding.specs.SimpleClauses.{yes_at, no_at, falling}
use Rattle.bounded_encoding.proofs.Ranges.{all_in_range, all_of_range, filtered_in_range, filtered_of_range}

-- two premises, literals that are false, and the rest
last_holds : (s t u v : Bool) → (not s || (not t || (u || v))) ≡ true → s ≡ true → t ≡ true → u ≡ false → v ≡ true
last_holds true true true v met one two none = absurd (false≢true (sym none))
last_holds true true false v met one two none = met
last_holds true false u v met one two none = absurd (false≢true two)
last_holds false t u v met one two none = absurd (false≢true one)

last_given : (s t u v : Bool) → (s ≡ true → t ≡ true → u ≡ false → v ≡ true) → (not s || (not t || (u || v))) ≡ true
last_given true true true v gives = refl
last_given true true false v gives = gives refl refl refl
last_given true false u v gives = refl
last_given false t u v gives = refl

module _ (a : ℕ → Bool) (x y : ℕ) (asked after : List Lit) where
  pub clause_asks : meets a (no_at x ∷ no_at y ∷ (asked ++ after)) ≡ true → a x ≡ true → a y ≡ true → meets a asked ≡ false →
      meets a after ≡ true
  clause_asks met =
      last_holds (a x) (a y) (meets a asked) (meets a after)
      (sym (ap (λ t. not (a x) || (not (a y) || t)) (list_any-append (is_true a) asked after)) ∙ met)

  pub clause_from : (a x ≡ true → a y ≡ true → meets a asked ≡ false → meets a after ≡ true) →
      meets a (no_at x ∷ no_at y ∷ (asked ++ after)) ≡ true
  clause_from gives =
      ap (λ t. not (a x) || (not (a y) || t)) (list_any-append (is_true a) asked after)
      ∙ last_given (a x) (a y) (meets a asked) (meets a after) gives

-- a literal that is true where a truth is not as it is wanted
agrees : (is wanted : Bool) → is ≡ wanted → cond (not wanted) is (not is) ≡ true → ⊥
agrees true true same differs = false≢true differs
agrees true false same differs = false≢true (sym same)
agrees false true same differs = false≢true same
agrees false false same differs = false≢true differs

differs : (is wanted : Bool) → (cond (not wanted) is (not is) ≡ true → ⊥) → is ≡ wanted
differs true true never = refl
differs true false never = absurd (never refl)
differs false true never = absurd (never refl)
differs false false never = refl

module _ (a : ℕ → Bool) (at : ℕ → ℕ) (asks wanted : ℕ → Bool) (n : ℕ) where
  abbrev literal : ℕ → Lit
  literal b = record { index = at b; positive = not (wanted b) }

  -- the variables that are asked for are as they are wanted
  abbrev pub AllAgree : Type 0
  AllAgree = (b : ℕ) → b < n → asks b ≡ true → a (at b) ≡ wanted b

  pub all_agree : meets a (map literal (filter asks (below n))) ≡ false → AllAgree
  all_agree none b within is =
      differs (a (at b)) (wanted b) (λ passes.
      let there = filtered_of_range asks 0 n b (omega arith) (omega arith) is in
      false≢true (sym none
      ∙ (list_any-map literal (is_true a) (filter asks (below n))
      ∙ list_any_contained (λ b. is_true a (literal b)) (filter asks (below n)) b
      (contains_at (filter asks (below n)) there.0 b there.1) passes)))

  pub none_differs : AllAgree → meets a (map literal (filter asks (below n))) ≡ false
  none_differs all = false_from_ne_true (meets a (map literal (filter asks (below n)))) (λ some.
      let found = list_any_place (λ b. is_true a (literal b)) (filter asks (below n))
      (sym (list_any-map literal (is_true a) (filter asks (below n))) ∙ some) in
      let there = filtered_in_range asks 0 n found.0 found.1 found.2 in
      agrees (a (at found.1)) (wanted found.1) (all found.1 (omega (arith, there.1)) there.2) found.3)

-- a literal alone, which is left out above a bound
alone : (t : Bool) → (t || false) ≡ true → t ≡ true
alone true is = refl
alone false is = absurd (false≢true is)

module _ (a : ℕ → Bool) (at : ℕ → ℕ) (bound n : ℕ) where
  pub last_says : meets a (cond (nat_le n bound) (yes_at (at n) ∷ []) []) ≡ true → (n ≤ bound) × (a (at n) ≡ true)
  last_says = by (leb n bound) refl
    where
      by : (b : Bool) → leb n bound ≡ b → meets a (cond b (yes_at (at n) ∷ []) []) ≡ true → (n ≤ bound) × (a (at n) ≡ true)
      by true within some = (leb-true n bound within, alone (a (at n)) some)
      by false past never = absurd (false≢true never)

  pub last_said : (n ≤ bound) × (a (at n) ≡ true) → meets a (cond (nat_le n bound) (yes_at (at n) ∷ []) []) ≡ true
  last_said is =
      ap (λ b. meets a (cond b (yes_at (at n) ∷ []) [])) (le-leb n bound is.0)
      ∙ ap (λ t. t || false) is.1

-- one variable that follows from another
follows : (s t : Bool) → ((not s || (t || false)) && true) ≡ true → s ≡ true → t ≡ true
follows true true met is = refl
follows true false met is = absurd (false≢true met)
follows false t met is = absurd (false≢true is)

implied : (s t : Bool) → (s ≡ true → t ≡ true) → ((not s || (t || false)) && true) ≡ true
implied true true gives = refl
implied true false gives = absurd (false≢true (gives refl))
implied false t gives = refl

module _ (a : ℕ → Bool) (at : ℕ → ℕ) (bound : ℕ) where
  pub falls : meets_all a (falling at bound) ≡ true → (i : ℕ) → 1 ≤ i → i ≤ bound → a (at i) ≡ true → a (at (i - 1)) ≡ true
  falls met i some most =
      follows (a (at i)) (a (at (i - 1)))
      (all_in_range (meets a) (λ i. (no_at (at i) ∷ yes_at (at (i - 1)) ∷ []) ∷ []) 1 (bound + 1 - 1) i met (omega arith) (omega arith))

  pub falling_met : ((i : ℕ) → 1 ≤ i → i ≤ bound → a (at i) ≡ true → a (at (i - 1)) ≡ true) → meets_all a (falling at bound) ≡ true
  falling_met gives =
      all_of_range (meets a) (λ i. (no_at (at i) ∷ yes_at (at (i - 1)) ∷ []) ∷ []) 1 (bound + 1 - 1)
      (λ i some most. implied (a (at i)) (a (at (i - 1))) (gives i some (omega arith)))

-- a clause of one variable
module _ (a : ℕ → Bool) (x : ℕ) where
  only : (t : Bool) → ((t || false) && true) ≡ true → t ≡ true
  only true met = refl
  only false met = absurd (false≢true met)

  pub only_holds : meets_all a ((yes_at x ∷ []) ∷ []) ≡ true → a x ≡ true
  only_holds = only (a x)

  pub only_met : a x ≡ true → meets_all a ((yes_at x ∷ []) ∷ []) ≡ true
  only_met is = ap (λ t. (t || false) && true) is
