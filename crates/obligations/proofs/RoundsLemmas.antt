-- The flags after all rounds are those of the choices that no different one lies within.
use Rattle.std.proofs.Common.{◌≡◌, ◌∙◌, ℕ, zero, suc, ◌<◌, Bool, true, false, cond, not, ◌&&◌, ◌||◌, ◌==◌, List, [], ◌∷◌, map, filter}
use Rattle.std.proofs.Common.{nat_lt, nat_eq, slice_get, Some, refl, sym, ap, arith, eq-eqb}
use Rattle.std.specs.List.{list_any, AllByRecursion}
use Rattle.std.proofs.lemmas.Bool.{lt-ltb, le-ltb, ltb-true, ltb-false, eqb-true, and_parts, and_from, not-true}
use Rattle.base_library.proofs.Booleans.{same_tests}
use Rattle.base_library.proofs.Each.{each_at, each_from_places}
use Rattle.base_library.proofs.Passes.{list_any_place}
use Rattle.std.proofs.Math.Bool.{and-or_distrib_right}
use Rattle.std.proofs.lemmas.List.Folds.{list_any-append}
use Rattle.obligations.specs.Choices.{same_choice, is_within, is_larger}
use Rattle.obligations.specs.Numbers.{ChoiceKey}
use Rattle.obligations.specs.internal.Rounds.{IsRisingChoice, weight, is_kept, rounds, with_flags, flags_after}
use Rattle.obligations.proofs.WithinLemmas.{within_is, is_within_key, within_trans, lighter, same_key_is}
use Rattle.obligations.proofs.KeptChoices.{kept, any_at, any_filtered}

or_cross : (a b c d : Bool) → ((a || b) || (c || d)) ≡ ((a || c) || (b || d))
or_cross true b c d = refl
or_cross false true true d = refl
or_cross false true false d = refl
or_cross false false c d = refl

any_filter : (p q : ChoiceKey → Bool) (xs : List ChoiceKey) → list_any p (filter q xs) ≡ list_any (λ x. q x && p x) xs
any_filter p q [] = refl
any_filter p q (x ∷ xs) = by (q x) ∙ ap (λ b. (q x && p x) || b) (any_filter p q xs)
  where
    by : (b : Bool) → list_any p (cond b (x ∷ filter q xs) (filter q xs)) ≡ ((b && p x) || list_any p (filter q xs))
    by true = refl
    by false = refl

any_same : (p q : ChoiceKey → Bool) (xs : List ChoiceKey) → ((x : ChoiceKey) → p x ≡ q x) → list_any p xs ≡ list_any q xs
any_same p q [] same = refl
any_same p q (x ∷ xs) same = λ i. same x i || any_same p q xs same i

any_or : (p q : ChoiceKey → Bool) (xs : List ChoiceKey) → (list_any p xs || list_any q xs) ≡ list_any (λ x. p x || q x) xs
any_or p q [] = refl
any_or p q (x ∷ xs) = or_cross (p x) (list_any p xs) (q x) (list_any q xs) ∙ ap (λ b. (p x || q x) || b) (any_or p q xs)

any_none : (p : ChoiceKey → Bool) (xs : List ChoiceKey) → ((x : ChoiceKey) → p x ≡ false) → list_any p xs ≡ false
any_none p [] none = refl
any_none p (x ∷ xs) none = λ i. none x i || any_none p xs none i

filter_same : (p q : ChoiceKey → Bool) (xs : List ChoiceKey) → AllByRecursion (λ x. p x ≡ q x) xs → filter p xs ≡ filter q xs
filter_same p q [] same = refl
filter_same p q (x ∷ xs) same = λ i. cond (same.0 i) (x ∷ filter_same p q xs same.1 i) (filter_same p q xs same.1 i)

map_same : (f g : ChoiceKey → Bool) (xs : List ChoiceKey) → AllByRecursion (λ x. f x ≡ g x) xs → map f xs ≡ map g xs
map_same f g [] e = refl
map_same f g (x ∷ xs) e = λ i. e.0 i ∷ map_same f g xs e.1 i

-- below a number and one more: below it or the number itself
one_more : (n w : ℕ) → nat_lt n (suc w) ≡ (nat_lt n w || (n == w))
one_more n w = same_tests (nat_lt n (suc w)) (nat_lt n w || (n == w)) there back
  where
    there : nat_lt n (suc w) ≡ true → (nat_lt n w || (n == w)) ≡ true
    there h = by (nat_lt n w) refl
      where
        by : (b : Bool) → nat_lt n w ≡ b → (b || (n == w)) ≡ true
        by true e = refl
        by false e = let above = ltb-false n w e in let below = ltb-true n (suc w) h in eq-eqb n w (omega arith)

    back : (nat_lt n w || (n == w)) ≡ true → nat_lt n (suc w) ≡ true
    back h = by (nat_lt n w) refl h
      where
        by : (b : Bool) → nat_lt n w ≡ b → (b || (n == w)) ≡ true → nat_lt n (suc w) ≡ true
        by true e k = let below = ltb-true n w e in lt-ltb n (suc w) (omega arith)
        by false e k = let same = eqb-true n w k in lt-ltb n (suc w) (omega arith)

module _ (cs : List ChoiceKey) (well : AllByRecursion IsRisingChoice cs) where
  abbrev small : ChoiceKey → Bool
  small x = not (is_larger nat_eq cs x)

  -- a choice is larger than another exactly where a lighter one that is kept lies within it
  by_lighter : (i : ℕ) (x : ChoiceKey) → slice_get cs i ≡ Some x
      → is_larger nat_eq cs x ≡ list_any (λ y. nat_lt (weight y) (weight x) && is_within nat_eq y x) (filter small cs)
  by_lighter i x at = same_tests (is_larger nat_eq cs x) (list_any (λ y. nat_lt (weight y) (weight x) && is_within nat_eq y x)
      (filter small cs)) there back
    where
      there : is_larger nat_eq cs x ≡ true → list_any (λ y. nat_lt (weight y) (weight x) && is_within nat_eq y x) (filter small cs) ≡ true
      there is =
          let other = list_any_place (λ d. is_within nat_eq d x && not (same_choice nat_eq d x)) cs is in
          let parts = and_parts (is_within nat_eq other.1 x) (not (same_choice nat_eq other.1 x)) other.3 in
          let inside = within_is other.1 x parts.0 in
          let less = lighter other.1 x (each_at IsRisingChoice cs other.0 other.1 well other.2)
          (each_at IsRisingChoice cs i x well at) inside (not-true (same_choice nat_eq other.1 x) parts.1) in
          let r = kept cs well (suc (weight other.1)) other.0 other.1 other.2 (omega arith) in
          any_at (λ y. nat_lt (weight y) (weight x) && is_within nat_eq y x) (filter small cs) r.0 r.1 r.2
          (and_from (nat_lt (weight r.1) (weight x)) (is_within nat_eq r.1 x) (lt-ltb (weight r.1) (weight x) (omega (arith, r.4, less)))
          (is_within_key r.1 x (within_trans r.1 other.1 x r.3 inside)))

      distinct : (y : ChoiceKey) → nat_lt (weight y) (weight x) ≡ true → (b : Bool) → same_choice nat_eq y x ≡ b → not b ≡ true
      distinct y h false e = refl
      distinct y h true e = let less = ltb-true (weight y) (weight x) h in let equal : weight y
          ≡ weight x = ap weight (same_key_is y x e) in absurd (omega arith)

      widen : (y : ChoiceKey) → (nat_lt (weight y) (weight x) && is_within nat_eq y x) ≡ true →
          (is_within nat_eq y x && not (same_choice nat_eq y x)) ≡ true
      widen y h =
          let parts = and_parts (nat_lt (weight y) (weight x)) (is_within nat_eq y x) h in
          and_from (is_within nat_eq y x) (not (same_choice nat_eq y x)) parts.1 (distinct y parts.0 (same_choice nat_eq y x) refl)

      any_wider : (p q : ChoiceKey → Bool) → ((y : ChoiceKey) → p y ≡ true → q y ≡ true) → (ys : List ChoiceKey) → list_any p ys ≡ true →
          list_any q ys ≡ true
      any_wider p q up ys h = let s = list_any_place p ys h in any_at q ys s.0 s.1 s.2 (up s.1 s.3)

      back : list_any (λ y. nat_lt (weight y) (weight x) && is_within nat_eq y x) (filter small cs) ≡ true → is_larger nat_eq cs x ≡ true
      back is =
          any_wider (λ y. nat_lt (weight y) (weight x) && is_within nat_eq y x)
          (λ y. is_within nat_eq y x && not (same_choice nat_eq y x)) widen cs
          (any_filtered (λ y. nat_lt (weight y) (weight x) && is_within nat_eq y x) small cs is)

  -- what a round keeps, where the rounds before kept what they should
  kept_is : (w : ℕ) → ((p : ChoiceKey → Bool) → list_any p (rounds cs w) ≡ list_any (λ y. nat_lt (weight y) w && p y) (filter small cs))
      → (i : ℕ) (x : ChoiceKey) → slice_get cs i ≡ Some x → is_kept (rounds cs w) w x ≡ ((weight x == w) && small x)
  kept_is w before i x at = by (weight x == w) refl
    where
      by : (b : Bool) → (weight x == w) ≡ b → (b && not (list_any (λ y. is_within nat_eq y x) (rounds cs w))) ≡ (b && small x)
      by false e = refl
      by true e =
          let is : weight x ≡ w = eqb-true (weight x) w e in
          ap not (before (λ y. is_within nat_eq y x) ∙ ap (λ n. list_any (λ y. nat_lt (weight y) n && is_within nat_eq y x)
          (filter small cs)) (sym is) ∙ sym (by_lighter i x at))

  split : (lt eq s p : Bool) → ((s && (lt && p)) || ((eq && s) && p)) ≡ (s && ((lt || eq) && p))
  split true true true true = refl
  split true true true false = refl
  split true true false p = refl
  split true false true true = refl
  split true false true false = refl
  split true false false p = refl
  split false true true p = refl
  split false true false p = refl
  split false false true p = refl
  split false false false p = refl

  rounds_are : (w : ℕ) (p : ChoiceKey → Bool) → list_any p (rounds cs w) ≡ list_any (λ y. nat_lt (weight y) w && p y) (filter small cs)
  rounds_are zero p = sym (any_none (λ y. nat_lt (weight y) 0 && p y) (filter small cs)
      (λ y. ap (λ b. b && p y) (le-ltb (weight y) 0 (omega arith))))
  rounds_are (suc w) p =
      list_any-append p (rounds cs w) (filter (is_kept (rounds cs w) w) cs)
      ∙ (λ i. rounds_are w p i || list_any p (filter_same (is_kept (rounds cs w) w) (λ x. (weight x == w) && small x) cs
      (each_from_places (λ x. is_kept (rounds cs w) w x ≡ ((weight x == w) && small x)) cs (kept_is w (rounds_are w))) i))
      ∙ (λ i. any_filter (λ y. nat_lt (weight y) w && p y) small cs i || any_filter p (λ x. (weight x == w) && small x) cs i)
      ∙ any_or (λ x. small x && (nat_lt (weight x) w && p x)) (λ x. ((weight x == w) && small x) && p x) cs
      ∙ any_same (λ x. (small x && (nat_lt (weight x) w && p x)) || (((weight x == w) && small x) && p x))
      (λ x. small x && (nat_lt (weight x) (suc w) && p x)) cs
      (λ x. split (nat_lt (weight x) w) (weight x == w) (small x) (p x) ∙ ap (λ b. small x && (b && p x)) (sym (one_more (weight x) w)))
      ∙ sym (any_filter (λ y. nat_lt (weight y) (suc w) && p y) small cs)

  flags_map : (test f : ChoiceKey → Bool) (xs : List ChoiceKey) → with_flags test 0 xs (map f xs) ≡ map (λ x. f x || test x) xs
  flags_map test f [] = refl
  flags_map test f (x ∷ xs) = ap (λ r. (f x || test x) ∷ r) (flags_map test f xs)

  -- after the rounds of weights below a number the flags tell the small ones of those weights
  pub flags_are : (w : ℕ) → flags_after cs w (map (λ x. false) cs) ≡ map (λ x. nat_lt (weight x) w && small x) cs
  flags_are zero = map_same (λ x. false) (λ x. nat_lt (weight x) 0 && small x) cs
      (each_from_places (λ x. false ≡ (nat_lt (weight x) 0 && small x)) cs
      (λ i x at. ap (λ b. b && small x) (sym (le-ltb (weight x) 0 (omega arith)))))
  flags_are (suc w) =
      ap (with_flags (is_kept (rounds cs w) w) 0 cs) (flags_are w)
      ∙ flags_map (is_kept (rounds cs w) w) (λ x. nat_lt (weight x) w && small x) cs
      ∙ map_same (λ x. (nat_lt (weight x) w && small x) || is_kept (rounds cs w) w x) (λ x. nat_lt (weight x) (suc w) && small x) cs
      (each_from_places (λ x. ((nat_lt (weight x) w && small x) || is_kept (rounds cs w) w x) ≡ (nat_lt (weight x) (suc w) && small x)) cs
      (λ i x at. ap (λ b. (nat_lt (weight x) w && small x) || b) (kept_is w (rounds_are w) i x at)
      ∙ sym (and-or_distrib_right (nat_lt (weight x) w) (weight x == w) (small x)) ∙ ap (λ b. b && small x) (sym (one_more (weight x) w))))

  -- with a bound on the weights they tell all small ones
  pub flags_tell : (bound : ℕ) → AllByRecursion (λ x. weight x < bound) cs → flags_after cs bound (map (λ x. false) cs) ≡ map small cs
  flags_tell bound light =
      flags_are bound ∙ map_same (λ x. nat_lt (weight x) bound && small x) small cs (each cs light)
    where
      each : (xs : List ChoiceKey) → AllByRecursion (λ x. weight x < bound) xs →
          AllByRecursion (λ x. (nat_lt (weight x) bound && small x) ≡ small x) xs
      each [] light = tt
      each (x ∷ xs) light = (ap (λ b. b && small x) (lt-ltb (weight x) bound light.0), each xs light.1)
