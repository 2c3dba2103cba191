-- A loop that looks at signals and terms side by side.
use Rattle.std.proofs.Common.{◌≡◌, ◌∙◌, ℕ, ◌+◌, ◌<◌, ◌≤◌, ◌&&◌, Bool, true, false, List, length, map, drop, get_or, refl, sym, ap, arith}
use Rattle.std.specs.Prelude.{is_some}
use Rattle.std.proofs.lemmas.List.{drop_all, length-map}
use Rattle.base_library.proofs.Lists.{left_at}
use Rattle.tsl_terms.specs.declared.term.Term.{Term}
use Rattle.tsl_terms.specs.TermTree.{term_tree}
use Rattle.letter_space.specs.declared.controlled.Controlled.{Controlled}
use Rattle.letter_space.specs.ControlledView.{controlled_tree}
use Rattle.letter_space.specs.Bits.{bit_of_choice}
use Rattle.control_flow_model.specs.ProgramBits.{are_terms_chosen}
use Rattle.control_flow_model.proofs.PickedTerms.{chosen_count}

pub unlike_count : (xs : List Controlled) (terms : List Term) → (length xs ≡ length terms → ⊥) →
    false ≡ are_terms_chosen (map controlled_tree xs) (map term_tree terms)
unlike_count xs terms unlike = by (are_terms_chosen (map controlled_tree xs) (map term_tree terms)) refl
  where
    by : (b : Bool) → are_terms_chosen (map controlled_tree xs) (map term_tree terms) ≡ b → false ≡ b
    by false e = refl
    by true e =
        let count = chosen_count (map controlled_tree xs) (map term_tree terms) e in
        absurd (unlike (sym (length-map xs controlled_tree) ∙ count ∙ length-map terms term_tree))

-- from a place on
abbrev pub chosen_from : List Controlled → List Term → ℕ → Bool
chosen_from xs terms i = are_terms_chosen (map controlled_tree (drop i xs)) (map term_tree (drop i terms))

module _ (xs : List Controlled) (terms : List Term) (i : ℕ) (x : Controlled) (t : Term) (within : i < length xs)
    (is_x : x ≡ get_or xs i x)
    (inside : i < length terms) (is_t : t ≡ get_or terms i t) where
  turn : chosen_from xs terms i ≡ (is_some (bit_of_choice (controlled_tree x) (term_tree t)) && chosen_from xs terms (i + 1))
  turn = λ j. are_terms_chosen (map controlled_tree (left_at xs i x within is_x j)) (map term_tree (left_at terms i t inside is_t j))

  pub next_chosen : is_some (bit_of_choice (controlled_tree x) (term_tree t)) ≡ true →
      chosen_from xs terms (i + 1) ≡ chosen_from xs terms i
  next_chosen chosen = sym (turn ∙ ap (λ b. b && chosen_from xs terms (i + 1)) chosen)

  pub not_chosen : is_some (bit_of_choice (controlled_tree x) (term_tree t)) ≡ false → false ≡ chosen_from xs terms i
  not_chosen none = sym (turn ∙ ap (λ b. b && chosen_from xs terms (i + 1)) none)

pub all_chosen : (xs : List Controlled) (terms : List Term) (i : ℕ) → length xs ≤ i → length xs ≡ length terms →
    true ≡ chosen_from xs terms i
all_chosen xs terms i past count =
    sym (λ j. are_terms_chosen (map controlled_tree (drop_all i xs past j))
    (map term_tree (drop_all i terms (let p : length terms ≤ i = omega (arith, past, count) in p) j)))
