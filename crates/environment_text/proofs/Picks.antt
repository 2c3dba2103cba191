-- A choice of each signal as text: the first one and what is left.
use Rattle.std.proofs.Common.{◌≡◌, ℕ, zero, suc, ◌+◌, ◌<◌, ◌≤◌, length, get_or, drop, map, List, [], ◌∷◌, ◌++◌, Some, slice_get, codes, refl, ap}
use Rattle.std.proofs.Common.{sym, ◌∙◌, subst, arith}
use Rattle.std.specs.Option.{option_map_or}
use Rattle.std.proofs.lemmas.List.{drop_more, drop_all, length-map}
use Rattle.base_library.proofs.Lists.{left_at}
use Rattle.tsl_terms.specs.declared.term.Term.{Term}
use Rattle.tsl_terms.specs.Name.{Name}
use Rattle.tsl_terms.specs.TermTree.{term_tree}
use Rattle.term_text.specs.TermText.{update_text}
use Rattle.letter_space.specs.declared.controlled.Controlled.{Controlled}
use Rattle.letter_space.specs.ControlledView.{controlled_tree}
use Rattle.letter_space.specs.SpaceTree.{ControlledTree}
use Rattle.letter_space.specs.Letters.{ArePicks}
use Rattle.environment_text.specs.EnvironmentText.{picked_text, picks_text}

pub as_many : (cs : List ControlledTree) (picks : List ℕ) → ArePicks cs picks → length cs ≡ length picks
as_many [] [] are = refl
as_many (c ∷ cs) (pick ∷ picks) are = ap suc (as_many cs picks are.1)
as_many [] (pick ∷ picks) are = absurd are
as_many (c ∷ cs) [] are = absurd are

pub within : (xs : List Controlled) (picks : List ℕ) (i : ℕ) → ArePicks (map controlled_tree xs) picks → i < length picks → i < length xs
within xs picks i are below =
    let same = as_many (map controlled_tree xs) picks are in
    let mapped = length-map xs controlled_tree in
    omega (arith, below, same, mapped)

pick_below_there : (xs : List Controlled) (picks : List ℕ) (i : ℕ) (d : Controlled) → ArePicks (map controlled_tree xs) picks →
    i < length picks → get_or picks i 0 < length (get_or xs i d).choices
pick_below_there (x ∷ xs) (pick ∷ picks) zero d are below =
    let mapped = length-map x.choices term_tree in let first = are.0 in omega (arith, first, mapped)
pick_below_there (x ∷ xs) (pick ∷ picks) (suc i) d are below = pick_below_there xs picks i d are.1 (omega (arith, below))
pick_below_there [] (pick ∷ picks) i d are below = absurd are
pick_below_there xs [] i d are below = absurd (omega (arith, below))

pub pick_below : (xs : List Controlled) (picks : List ℕ) (i : ℕ) (x : Controlled) → ArePicks (map controlled_tree xs) picks →
    i < length picks → x ≡ get_or xs i x → get_or picks i 0 < length x.choices
pick_below xs picks i x are below is =
    subst (λ (y : Controlled). get_or picks i 0 < length y.choices) (sym is) (pick_below_there xs picks i x are below)

module _ (names : List Name) where
  pub picks_left : (xs : List Controlled) (picks : List ℕ) (i : ℕ) (x : Controlled) → ArePicks (map controlled_tree xs) picks →
      i < length picks → x ≡ get_or xs i x →
      picks_text names (map controlled_tree (drop i xs)) (drop i picks) ≡ picked_text names (controlled_tree x) (get_or picks i 0)
      ++ picks_text names (map controlled_tree (drop (i + 1) xs)) (drop (i + 1) picks)
  picks_left xs picks i x are below is =
      λ j. picks_text names (map controlled_tree (left_at xs i x (within xs picks i are below) is j))
      (drop_more picks i 0 below j)

  none_left : (cs : List ControlledTree) → picks_text names cs [] ≡ []
  none_left [] = refl
  none_left (c ∷ cs) = refl

  pub picks_done : (cs : List ControlledTree) (picks : List ℕ) (i : ℕ) → length picks ≤ i → picks_text names cs (drop i picks) ≡ []
  picks_done cs picks i all = ap (picks_text names cs) (drop_all i picks all) ∙ none_left cs

  pub picked_is : (c : Controlled) (pick : ℕ) (t : Term) → pick < length c.choices → t ≡ get_or c.choices pick t →
      picked_text names (controlled_tree c) pick ≡ codes " " ++ update_text names c.signal (term_tree t)
  picked_is c pick t below is =
      ap (λ o. option_map_or (λ u. codes " " ++ update_text names c.signal u) o []) (mapped_at c.choices pick t below is)
    where
      mapped_at : (ts : List Term) (i : ℕ) (u : Term) → i < length ts → u ≡ get_or ts i u →
          slice_get (map term_tree ts) i ≡ Some (term_tree u)
      mapped_at [] i u inside at = absurd (omega (arith, inside))
      mapped_at (v ∷ ts) zero u inside at = ap (λ w. Some (term_tree w)) (sym at)
      mapped_at (v ∷ ts) (suc i) u inside at = mapped_at ts i u (omega (arith, inside)) at
