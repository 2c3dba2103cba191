-- A list that grows by what did not stand in it is the list of first appearances.
use Rattle.std.proofs.Common.{◌≡◌, Bool, true, false, not, ◌&&◌, ◌||◌, cond, List, [], ◌∷◌, ◌++◌, map, filter, refl, sym, ap, ◌∙◌}
use Rattle.std.specs.List.{list_any}
use Rattle.std.proofs.lemmas.List.{append-nil, append_assoc, map_push}
use Rattle.std.proofs.lemmas.List.Folds.{list_any-append}
use Rattle.base_library.specs.Kept.{is_kept, with_new}
use Rattle.base_library.proofs.Passes.{filter_filter, filter_true, list_any-map}

-- one list after another
pub with_new-append : {A : Type 0} (same : A → A → Bool) (kept xs ys : List A) →
    with_new same (with_new same kept xs) ys ≡ with_new same kept (xs ++ ys)
with_new-append same kept [] ys = refl
with_new-append same kept (x ∷ xs) ys = with_new-append same (cond (is_kept same kept x) kept (kept ++ x ∷ [])) xs ys

-- `firsts` gives each member where it stands first
module _ {A : Type 0} (same : A → A → Bool) (is : (a b : A) → same a b ≡ true → a ≡ b)
    (firsts : List A → List A) (firsts_none : firsts [] ≡ []) (firsts_more : (x : A) (xs : List A) →
    firsts (x ∷ xs) ≡ x ∷ filter (λ y. not (same x y)) (firsts xs)) where
  -- what is not among a list with one more member
  not_kept_push : (kept : List A) (x y : A) → (not (same x y) && not (is_kept same kept y)) ≡ not (is_kept same (kept ++ x ∷ []) y)
  not_kept_push kept x y = by (same x y) (is_kept same kept y) ∙ ap not (sym (list_any-append (λ k. same k y) kept (x ∷ [])))
    where
      by : (b c : Bool) → (not b && not c) ≡ not (c || (b || false))
      by true true = refl
      by true false = refl
      by false true = refl
      by false false = refl

  -- what is not among a list is not a member of it
  not_kept_member : (kept : List A) (x y : A) → is_kept same kept x ≡ true →
      (not (same x y) && not (is_kept same kept y)) ≡ not (is_kept same kept y)
  not_kept_member kept x y member = by (same x y) refl
    where
      by : (b : Bool) → same x y ≡ b → (not b && not (is_kept same kept y)) ≡ not (is_kept same kept y)
      by false at = refl
      by true at = sym (ap not (ap (is_kept same kept) (sym (is x y at)) ∙ member))

  with_new-firsts : (kept xs : List A) → with_new same kept xs ≡ kept ++ filter (λ y. not (is_kept same kept y)) (firsts xs)
  with_new-firsts kept [] = sym (append-nil kept) ∙ ap (λ ys. kept ++ filter (λ y. not (is_kept same kept y)) ys) (sym firsts_none)
  with_new-firsts kept (x ∷ xs) =
      by (with_new-firsts kept xs) (with_new-firsts (kept ++ x ∷ []) xs) (is_kept same kept x) refl
    where
      by : with_new same kept xs ≡ kept ++ filter (λ y. not (is_kept same kept y)) (firsts xs)
          → with_new same (kept ++ x ∷ []) xs ≡ (kept ++ x ∷ []) ++ filter (λ y. not (is_kept same (kept ++ x ∷ []) y)) (firsts xs)
          → (b : Bool) → is_kept same kept x ≡ b
          → with_new same (cond b kept (kept ++ x ∷ [])) xs ≡ kept ++ filter (λ y. not (is_kept same kept y)) (firsts (x ∷ xs))
      by old new true at =
          old
          ∙ ap (λ ys. kept ++ ys)
          ((λ i. filter (λ y. sym (not_kept_member kept x y at) i) (firsts xs))
          ∙ sym (filter_filter (λ y. not (is_kept same kept y)) (λ y. not (same x y)) (firsts xs))
          ∙ dropped at
          ∙ ap (filter (λ y. not (is_kept same kept y))) (sym (firsts_more x xs)))
        where
          dropped : is_kept same kept x ≡ true →
              filter (λ y. not (is_kept same kept y)) (filter (λ y. not (same x y)) (firsts xs))
              ≡ filter (λ y. not (is_kept same kept y)) (x ∷ filter (λ y. not (same x y)) (firsts xs))
          dropped at = rw at refl
      by old new false at =
          new
          ∙ append_assoc kept (x ∷ []) (filter (λ y. not (is_kept same (kept ++ x ∷ []) y)) (firsts xs))
          ∙ ap (λ ys. kept ++ ys)
          (ap (λ ys. x ∷ ys)
          ((λ i. filter (λ y. sym (not_kept_push kept x y) i) (firsts xs))
          ∙ sym (filter_filter (λ y. not (is_kept same kept y)) (λ y. not (same x y)) (firsts xs)))
          ∙ kept_first at
          ∙ ap (filter (λ y. not (is_kept same kept y))) (sym (firsts_more x xs)))
        where
          kept_first : is_kept same kept x ≡ false →
              x ∷ filter (λ y. not (is_kept same kept y)) (filter (λ y. not (same x y)) (firsts xs))
              ≡ filter (λ y. not (is_kept same kept y)) (x ∷ filter (λ y. not (same x y)) (firsts xs))
          kept_first at = rw at refl

  -- from nothing on
  pub with_new-from_none : (xs : List A) → with_new same [] xs ≡ firsts xs
  with_new-from_none xs = with_new-firsts [] xs ∙ filter_true (firsts xs)

module _ {A M : Type 0} (view : A → M) (same : M → M → Bool) (old : List A) (x : M) where
  -- what did not stand in a list is added
  pub with_new-absent : (new : List A) (copy : A) (among : Bool) → among ≡ list_any (λ p. same (view p) x) old → among ≡ false →
      new ≡ old ++ copy ∷ [] → view copy ≡ x → map view new ≡ with_new same (map view old) (x ∷ [])
  with_new-absent new copy among is absent push equal =
      ap (map view) push ∙ map_push view old copy ∙ ap (λ y. map view old ++ y ∷ []) equal
      ∙ chosen (list_any-map view (λ k. same k x) old ∙ sym is ∙ absent)
    where
      chosen : is_kept same (map view old) x ≡ false →
          map view old ++ x ∷ [] ≡ cond (is_kept same (map view old) x) (map view old) (map view old ++ x ∷ [])
      chosen at = rw at refl

  -- and what stood there is not
  pub with_new-present : (among : Bool) → among ≡ list_any (λ p. same (view p) x) old → among ≡ true →
      map view old ≡ with_new same (map view old) (x ∷ [])
  with_new-present among is present = chosen (list_any-map view (λ k. same k x) old ∙ sym is ∙ present)
    where
      chosen : is_kept same (map view old) x ≡ true →
          map view old ≡ cond (is_kept same (map view old) x) (map view old) (map view old ++ x ∷ [])
      chosen at = rw at refl

-- a step that takes a first part, where another is left
pub with_new-step : {A : Type 0} (same : A → A → Bool) (kept new xs ys all : List A) → with_new same kept (xs ++ ys) ≡ all →
    new ≡ with_new same kept xs → with_new same new ys ≡ all
with_new-step same kept new xs ys all before step =
    ap (λ ks. with_new same ks ys) step ∙ with_new-append same kept xs ys ∙ before

-- four parts in turn, from nothing on
pub with_new-four : {A : Type 0} (same : A → A → Bool) (a b c d k0 k1 k2 k3 k4 : List A) → k0 ≡ []
    → k1 ≡ with_new same k0 a → k2 ≡ with_new same k1 b → k3 ≡ with_new same k2 c → k4 ≡ with_new same k3 d
    → k4 ≡ with_new same [] (a ++ b ++ c ++ d)
with_new-four same a b c d k0 k1 k2 k3 k4 none h1 h2 h3 h4 =
    let first : k1 ≡ with_new same [] a = h1 ∙ ap (λ k. with_new same k a) none in
    let second : k2 ≡ with_new same [] (a ++ b) = h2 ∙ with_new-step same [] k1 a b _ refl first in
    let third : k3 ≡ with_new same [] (a ++ b ++ c) = h3 ∙ with_new-step same [] k2 (a ++ b) c _ refl second in
    h4 ∙ with_new-step same [] k3 (a ++ b ++ c) d _ refl third
