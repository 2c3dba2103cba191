-- Numbers of names that grow by one in each round of a loop.
use Rattle.std.proofs.Common.{◌≡◌, ◌∙◌, ℕ, ◌+◌, ◌<◌, List, [], ◌∷◌, ◌++◌, length, map, take, get_or, Option, Some, sym, ap}
use Rattle.base_library.proofs.Lists.{map_map, alike_push}

module _ {U V : Type 0} (view : U → V) (number : V → Option ℕ) where
  pub numbers_more : (xs : List U) (i : ℕ) (d : U) (ns : List ℕ) (n : ℕ) → i < length xs → number (view (get_or xs i d)) ≡ Some n →
      map number (map view (take i xs)) ≡ map (λ k. Some k) ns →
      map number (map view (take (i + 1) xs)) ≡ map (λ k. Some k) (ns ++ n ∷ [])
  numbers_more xs i d ns n within is h =
      map_map number view (take (i + 1) xs)
      ∙ sym (alike_push (λ k. Some k) (λ x. number (view x)) ns n xs i d within (sym h ∙ map_map number view (take i xs)) (sym is))

  -- where the member is named by itself
  pub item_numbers : (xs : List U) (i : ℕ) (x : U) (ns : List ℕ) (n : ℕ) → i < length xs → x ≡ get_or xs i x →
      number (view x) ≡ Some n → map number (map view (take i xs)) ≡ map (λ k. Some k) ns →
      map number (map view (take (i + 1) xs)) ≡ map (λ k. Some k) (ns ++ n ∷ [])
  item_numbers xs i x ns n within is value h =
      numbers_more xs i x ns n within (ap (λ y. number (view y)) (sym is) ∙ value) h
