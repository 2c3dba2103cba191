-- Loops along a list of atoms: what is gathered and what is marked at each.
use Rattle.std.proofs.Common.{◌≡◌, ℕ, ◌+◌, ◌<◌, ◌≤◌, Bool, ◌||◌, List, [], ◌∷◌, ◌++◌, length, take, get_or, sym, ap, ◌∙◌, append-nil}
use Rattle.std.specs.List.{list_any, flat_map}
use Rattle.std.proofs.lemmas.List.{take_more, take_all}
use Rattle.std.proofs.lemmas.Grind.{flat_map-append}
use Rattle.std.proofs.lemmas.List.Folds.{list_any-append}
use Rattle.std.proofs.Math.Bool.{or-false}
use Rattle.base_library.specs.Kept.{with_new}
use Rattle.tsl_terms.specs.internal.Marked.{marked}
use Rattle.base_library.proofs.Kept.{with_new-append}
use Rattle.tsl_terms.proofs.MarkLemmas.{mark_two, mark_same}

module _ {A B : Type 0} (same : B → B → Bool) (f : A → List B) (xs : List A) (i : ℕ) where
  -- what the next one gives is added
  pub with_new-next : (x : A) (old new : List B) → i < length xs → x ≡ get_or xs i x → old ≡ with_new same [] (flat_map f (take i xs)) →
      new ≡ with_new same old (f x) → new ≡ with_new same [] (flat_map f (take (i + 1) xs))
  with_new-next x old new within is so_far step =
      step
      ∙ ap (λ kept. with_new same kept (f x)) so_far
      ∙ with_new-append same [] (flat_map f (take i xs)) (f x)
      ∙ ap (with_new same []) (ap (λ ys. flat_map f (take i xs) ++ ys) (sym (append-nil (f x)))
      ∙ sym (flat_map-append f (take i xs) (x ∷ []))
      ∙ ap (flat_map f) (ap (λ y. take i xs ++ y ∷ []) is ∙ sym (take_more xs i x within)))

  -- and at the end all of them
  pub with_new-all : (old : List B) → length xs ≤ i → old ≡ with_new same [] (flat_map f (take i xs)) →
      old ≡ with_new same [] (flat_map f xs)
  with_new-all old past so_far = so_far ∙ ap (λ ys. with_new same [] (flat_map f ys)) (take_all i xs past)

module _ {A : Type 0} (p : ℕ → A → Bool) (xs : List A) (i : ℕ) (start : List Bool) where
  -- what the next one passes is marked
  pub marked-next : (x : A) (old new : List Bool) → i < length xs → x ≡ get_or xs i x →
      old ≡ marked (λ s. list_any (p s) (take i xs)) start →
      new ≡ marked (λ s. p s x) old → new ≡ marked (λ s. list_any (p s) (take (i + 1) xs)) start
  marked-next x old new within is so_far step =
      step
      ∙ ap (marked (λ s. p s x)) so_far
      ∙ mark_two (λ s. list_any (p s) (take i xs)) (λ s. p s x) start
      ∙ mark_same _ _ start (λ s. ap (λ b. list_any (p s) (take i xs) || b) (sym (or-false (p s x)))
      ∙ sym (list_any-append (p s) (take i xs) (x ∷ []))
      ∙ ap (list_any (p s)) (ap (λ y. take i xs ++ y ∷ []) is ∙ sym (take_more xs i x within)))

  -- and at the end what some of them passes
  pub marked-all : (q : ℕ → Bool) (old : List Bool) → length xs ≤ i → old ≡ marked (λ s. list_any (p s) (take i xs)) start →
      ((s : ℕ) → list_any (p s) xs ≡ q s) →
      old ≡ marked q start
  marked-all q old past so_far each = so_far ∙ mark_same _ _ start (λ s. ap (list_any (p s)) (take_all i xs past) ∙ each s)
