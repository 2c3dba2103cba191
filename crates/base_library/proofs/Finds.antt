-- The first member that passes a test.
use Rattle.std.proofs.Common.{◌≡◌, ℕ, ◌+◌, ◌<◌, ◌≤◌, Bool, true, false, cond, List, [], ◌∷◌, ◌++◌, length, map}
use Rattle.std.proofs.Common.{drop, get_or, Some, None, slice_get, refl, sym, ap, ◌∙◌, subst}
use Rattle.std.specs.Option.{option_or}
use Rattle.std.specs.List.{find, AllByRecursion}
use Rattle.std.proofs.lemmas.List.{drop_more, drop_all}
use Rattle.std.proofs.lemmas.List.Folds.{find-append}
use Rattle.std.proofs.lemmas.Option.{none-some, same_Some}
use Rattle.base_library.proofs.Each.{each_at}

-- ---- a loop that looks for it: past a member that fails, at one that passes, and past all

module _ {X : Type 0} (test : X → Bool) where
  pub find_past : (xs : List X) (i : ℕ) (d : X) → i < length xs → test (get_or xs i d) ≡ false →
      find test (drop i xs) ≡ find test (drop (i + 1) xs)
  find_past xs i d within fails =
      ap (find test) (drop_more xs i d within) ∙ ap (λ b. cond b (Some (get_or xs i d)) (find test (drop (i + 1) xs))) fails

  pub find_here : (xs : List X) (i : ℕ) (d : X) → i < length xs → test (get_or xs i d) ≡ true → find test (drop i xs) ≡ Some (get_or xs i d)
  find_here xs i d within passes =
      ap (find test) (drop_more xs i d within) ∙ ap (λ b. cond b (Some (get_or xs i d)) (find test (drop (i + 1) xs))) passes

  pub find_end : (xs : List X) (i : ℕ) → length xs ≤ i → find test (drop i xs) ≡ None
  find_end xs i past = ap (find test) (drop_all i xs past)

-- among the images of a function
module _ {X Y : Type 0} (view : X → Y) (test : Y → Bool) where
  pub find_image_past : (xs : List X) (i : ℕ) (d : X) → i < length xs → test (view (get_or xs i d)) ≡ false →
      find test (map view (drop i xs)) ≡ find test (map view (drop (i + 1) xs))
  find_image_past xs i d within fails =
      ap (λ ys. find test (map view ys)) (drop_more xs i d within)
      ∙ ap (λ b. cond b (Some (view (get_or xs i d))) (find test (map view (drop (i + 1) xs)))) fails

  pub find_image_here : (xs : List X) (i : ℕ) (d : X) → i < length xs → test (view (get_or xs i d)) ≡ true →
      find test (map view (drop i xs)) ≡ Some (view (get_or xs i d))
  find_image_here xs i d within passes =
      ap (λ ys. find test (map view ys)) (drop_more xs i d within)
      ∙ ap (λ b. cond b (Some (view (get_or xs i d))) (find test (map view (drop (i + 1) xs)))) passes

  pub find_image_end : (xs : List X) (i : ℕ) → length xs ≤ i → find test (map view (drop i xs)) ≡ None
  find_image_end xs i past = ap (λ ys. find test (map view ys)) (drop_all i xs past)

  -- where the member is named by itself
  pub find_item_past : (xs : List X) (i : ℕ) (x : X) → i < length xs → x ≡ get_or xs i x → test (view x) ≡ false →
      find test (map view (drop i xs)) ≡ find test (map view (drop (i + 1) xs))
  find_item_past xs i x within is fails = find_image_past xs i x within (ap (λ y. test (view y)) (sym is) ∙ fails)

  pub find_item_here : (xs : List X) (i : ℕ) (x : X) → i < length xs → x ≡ get_or xs i x → test (view x) ≡ true →
      find test (map view (drop i xs)) ≡ Some (view x)
  find_item_here xs i x within is passes =
      find_image_here xs i x within (ap (λ y. test (view y)) (sym is) ∙ passes) ∙ ap (λ y. Some (view y)) (sym is)

-- ---- what an answer says of the members

module _ {X : Type 0} (test : X → Bool) where
  pub each_fails : (xs : List X) → find test xs ≡ None → AllByRecursion (λ x. test x ≡ false) xs
  each_fails [] none = tt
  each_fails (x ∷ xs) none = by (test x) refl (each_fails xs) none
    where
      by : (b : Bool) → test x ≡ b → (find test xs ≡ None → AllByRecursion (λ y. test y ≡ false) xs) →
          cond b (Some x) (find test xs) ≡ None → AllByRecursion (λ y. test y ≡ false) (x ∷ xs)
      by true e further k = absurd (none-some x (sym k))
      by false e further k = (e, further k)

  pub find_none : (xs : List X) → AllByRecursion (λ x. test x ≡ false) xs → find test xs ≡ None
  find_none [] each = refl
  find_none (x ∷ xs) each = ap (λ b. cond b (Some x) (find test xs)) each.0 ∙ find_none xs each.1

  pub find_none_at : (xs : List X) (i : ℕ) (x : X) → find test xs ≡ None → slice_get xs i ≡ Some x → test x ≡ false
  find_none_at xs i x none at = each_at (λ y. test y ≡ false) xs i x (each_fails xs none) at

  pub find_neither : (xs ys : List X) → find test xs ≡ None → find test ys ≡ None → find test (xs ++ ys) ≡ None
  find_neither xs ys first second = find-append test xs ys ∙ (λ i. option_or (first i) (second i))

  pub found_has : (P : X → Type 0) (xs : List X) (x : X) → AllByRecursion P xs → find test xs ≡ Some x → P x
  found_has P [] x each is = absurd (none-some x is)
  found_has P (y ∷ ys) x each is = by (test y) (λ rest. found_has P ys x each.1 rest) is
    where
      by : (b : Bool) → (find test ys ≡ Some x → P x) → cond b (Some y) (find test ys) ≡ Some x → P x
      by true rest k = subst P (same_Some y x k) each.0
      by false rest k = rest k

  pub found_passes : (xs : List X) (x : X) → find test xs ≡ Some x → test x ≡ true
  found_passes [] x is = absurd (none-some x is)
  found_passes (y ∷ ys) x is = by (test y) refl (found_passes ys x) is
    where
      by : (b : Bool) → test y ≡ b → (find test ys ≡ Some x → test x ≡ true) → cond b (Some y) (find test ys) ≡ Some x → test x ≡ true
      by true passes rest k = ap test (sym (same_Some y x k)) ∙ passes
      by false fails rest k = rest k
