-- A test that passes from a choice to what lies within it passes for some choice of a list exactly where it passes for
-- some choice of the reduced list.
use Rattle.std.proofs.Common.{◌≡◌, ◌∙◌, ℕ, zero, suc, ◌<◌, ◌≤◌, Bool, true, false, cond, not, ◌&&◌, ◌||◌, nat_eq, List, [], ◌∷◌, ◌++◌}
use Rattle.std.proofs.Common.{filter, slice_get, Some, if◌then◌else◌, refl, sym, ap, arith}
use Rattle.std.specs.List.{list_any, AllByRecursion}
use Rattle.std.proofs.lemmas.Bool.{false≢true, and_parts, not-true}
use Rattle.base_library.specs.Kept.{with_new}
use Rattle.base_library.proofs.Booleans.{same_tests}
use Rattle.base_library.proofs.Each.{each_at}
use Rattle.base_library.proofs.Places.{contains_at}
use Rattle.base_library.proofs.Passes.{list_any_place, list_any_contained, filter_has}
use Rattle.obligations.specs.Choices.{same_choice, is_within, is_larger, without_repeats, without_larger}
use Rattle.obligations.specs.Numbers.{ChoiceKey}
use Rattle.obligations.specs.internal.Rounds.{IsRisingChoice, weight}
use Rattle.obligations.proofs.WithinLemmas.{Within, within_is, within_itself, within_trans, lighter, same_key_is}

or_absorb : (a t r : Bool) → (t ≡ true → a ≡ true) → (a || r) ≡ (a || (t || r))
or_absorb true t r h = refl
or_absorb false false r h = refl
or_absorb false true r h = absurd (false≢true (h refl))

or_move : (a t r : Bool) → ((a || (t || false)) || r) ≡ (a || (t || r))
or_move true t r = refl
or_move false true r = refl
or_move false false r = refl

any_push : {A : Type 0} (t : A → Bool) (xs : List A) (x : A) → list_any t (xs ++ x ∷ []) ≡ (list_any t xs || (t x || false))
any_push t [] x = refl
any_push t (y ∷ xs) x = ap (λ b. t y || b) (any_push t xs x) ∙ by (t y)
  where
    by : (b : Bool) → (b || (list_any t xs || (t x || false))) ≡ ((b || list_any t xs) || (t x || false))
    by true = refl
    by false = refl

pub any_filtered : {A : Type 0} (t p : A → Bool) (xs : List A) → list_any t (filter p xs) ≡ true → list_any t xs ≡ true
any_filtered t p [] h = h
any_filtered t p (x ∷ xs) h = by (p x) h (any_filtered t p xs)
  where
    by : (b : Bool) → list_any t (cond b (x ∷ filter p xs) (filter p xs)) ≡ true →
        (list_any t (filter p xs) ≡ true → list_any t xs ≡ true) → (t x || list_any t xs) ≡ true
    by true h rest = on (t x) h
      where
        on : (b : Bool) → (b || list_any t (filter p xs)) ≡ true → (b || list_any t xs) ≡ true
        on true h = refl
        on false h = rest h
    by false h rest = on (t x) (rest h)
      where
        on : (b : Bool) → list_any t xs ≡ true → (b || list_any t xs) ≡ true
        on true h = refl
        on false h = h

pub any_at : {A : Type 0} (t : A → Bool) (xs : List A) (i : ℕ) (x : A) → slice_get xs i ≡ Some x → t x ≡ true → list_any t xs ≡ true
any_at t xs i x at h = list_any_contained t xs x (contains_at xs i x at) h

-- without repeats
any_new : (t : ChoiceKey → Bool) (kept cs : List ChoiceKey) → list_any t (with_new (λ k c. same_choice nat_eq c k) kept cs)
    ≡ (list_any t kept || list_any t cs)
any_new t kept [] = by (list_any t kept)
  where
    by : (b : Bool) → b ≡ (b || false)
    by true = refl
    by false = refl
any_new t kept (c ∷ cs) = by (list_any (λ k. same_choice nat_eq c k) kept) refl (λ ks. any_new t ks cs)
  where
    by : (b : Bool) → list_any (λ k. same_choice nat_eq c k) kept ≡ b
        → ((ks : List ChoiceKey) → list_any t (with_new (λ k c. same_choice nat_eq c k) ks cs) ≡ (list_any t ks || list_any t cs))
        → list_any t (with_new (λ k c. same_choice nat_eq c k) (if b then kept else kept ++ c ∷ []) cs)
        ≡ (list_any t kept || (t c || list_any t cs))
    by true is rest =
        let place = list_any_place (λ k. same_choice nat_eq c k) kept is in
        rest kept ∙ or_absorb (list_any t kept) (t c) (list_any t cs)
        (λ h. any_at t kept place.0 place.1 place.2 (ap t (sym (same_key_is c place.1 place.3)) ∙ h))
    by false is rest =
        rest (kept ++ c ∷ []) ∙ ap (λ b. b || list_any t cs) (any_push t kept c) ∙ or_move (list_any t kept) (t c) (list_any t cs)

module _ (cs : List ChoiceKey) (well : AllByRecursion IsRisingChoice cs) where
  abbrev small : ChoiceKey → Bool
  small c = not (is_larger nat_eq cs c)

  -- within each choice of the list lies one that is kept, and it is no heavier
  pub kept : (n i : ℕ) (x : ChoiceKey) → slice_get cs i ≡ Some x → weight x < n
      → (j : ℕ) × (y : ChoiceKey) × (slice_get (without_larger nat_eq cs) j ≡ Some y) × Within y x × (weight y ≤ weight x)
  kept zero i x at light = absurd (omega arith)
  kept (suc n) i x at light = by (is_larger nat_eq cs x) refl (kept n)
    where
      by : (b : Bool) → is_larger nat_eq cs x ≡ b
          → ((k : ℕ) (z : ChoiceKey) → slice_get cs k ≡ Some z → weight z < n
          → (j : ℕ) × (y : ChoiceKey) × (slice_get (without_larger nat_eq cs) j ≡ Some y) × Within y z × (weight y ≤ weight z))
          → (j : ℕ) × (y : ChoiceKey) × (slice_get (without_larger nat_eq cs) j ≡ Some y) × Within y x × (weight y ≤ weight x)
      by false is rest =
          let there = filter_has small cs i x at (ap not is) in
          (there.0, x, there.1, within_itself x (each_at IsRisingChoice cs i x well at), omega arith)
      by true is rest =
          let other = list_any_place (λ d. is_within nat_eq d x && not (same_choice nat_eq d x)) cs is in
          let parts = and_parts (is_within nat_eq other.1 x) (not (same_choice nat_eq other.1 x)) other.3 in
          let inside = within_is other.1 x parts.0 in
          let less = lighter other.1 x (each_at IsRisingChoice cs other.0 other.1 well other.2)
          (each_at IsRisingChoice cs i x well at) inside (not-true (same_choice nat_eq other.1 x) parts.1) in
          let r = rest other.0 other.1 other.2 (omega arith) in
          (r.0, r.1, r.2, within_trans r.1 other.1 x r.3 inside, omega (arith, r.4, less))

  pub any_without_larger : (t : ChoiceKey → Bool) → ((y x : ChoiceKey) → Within y x → t x ≡ true → t y ≡ true) →
      list_any t (without_larger nat_eq cs) ≡ list_any t cs
  any_without_larger t down = same_tests (list_any t (without_larger nat_eq cs)) (list_any t cs) (any_filtered t small cs) back
    where
      back : list_any t cs ≡ true → list_any t (without_larger nat_eq cs) ≡ true
      back h =
          let s = list_any_place t cs h in
          let k = kept (suc (weight s.1)) s.0 s.1 s.2 (omega arith) in
          any_at t (without_larger nat_eq cs) k.0 k.1 k.2 (down k.1 s.1 k.3 s.3)

pub any_without_repeats : (t : ChoiceKey → Bool) (cs : List ChoiceKey) → list_any t (without_repeats nat_eq cs) ≡ list_any t cs
any_without_repeats t cs = any_new t [] cs
