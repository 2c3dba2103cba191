-- The terms that picks stand for: what each signal takes, and that the picks are choices.
use Rattle.std.proofs.Common.{◌≡◌, ◌∙◌, ℕ, zero, suc, ◌+◌, ◌-◌, ◌<◌, ◌≤◌, ◌==◌}
use Rattle.std.proofs.Common.{true, cond, List, [], ◌∷◌, ◌++◌, map, length, take, get_or}
use Rattle.std.proofs.Common.{Some, slice_get, refl, sym, ap, arith}
use Rattle.std.specs.Prelude.{option_map, option_and_then, is_some}
use Rattle.std.specs.List.{position}
use Rattle.std.proofs.lemmas.Bool.{and_parts, false≢true}
use Rattle.std.proofs.lemmas.List.{take_more, take_all, map-append, length-map}
use Rattle.std.proofs.lemmas.List.Quantifiers.{position-Some}
use Rattle.std.proofs.lemmas.Option.{none-some, same_Some, option_and_then_some, slice_get_within, slice_get-get_or, slice_get_read}
use Rattle.base_library.proofs.Options.{some_mapped}
use Rattle.tsl_terms.specs.declared.term.Term.{Term}
use Rattle.tsl_terms.specs.TermTree.{TermTree, term_tree}
use Rattle.tsl_terms.specs.SameTree.{same_tree}
use Rattle.tsl_terms.specs.Value.{beside}
use Rattle.tsl_terms.proofs.SameLemmas.{same_tree_is}
use Rattle.letter_space.specs.declared.controlled.Controlled.{Controlled}
use Rattle.letter_space.specs.ControlledView.{controlled_tree}
use Rattle.letter_space.specs.SpaceTree.{ControlledTree}
use Rattle.letter_space.specs.Bits.{bit_of_choice}
use Rattle.letter_space.specs.Letters.{ArePicks, term_taken}
use Rattle.letter_space.proofs.Places.{slice_get_image}
use Rattle.control_flow_model.specs.ProgramBits.{are_terms_chosen}
use Rattle.control_flow_model.specs.ControllerOf.{terms_picked}

-- the first term and the others
pub record ArePicked (c : ControlledTree) (cs : List ControlledTree) (pick : ℕ) (picks : List ℕ) (ts : List TermTree) : Type 0 where
  pub first : TermTree
  pub is_first : slice_get c.choices pick ≡ Some first
  pub others : List TermTree
  pub are_others : terms_picked cs picks ≡ Some others
  pub all : first ∷ others ≡ ts

pub picked_parts : (c : ControlledTree) (cs : List ControlledTree) (pick : ℕ) (picks : List ℕ) (ts : List TermTree) →
    terms_picked (c ∷ cs) (pick ∷ picks) ≡ Some ts → ArePicked c cs pick picks ts
picked_parts c cs pick picks ts picked = option_and_then_some _ _ _ picked (λ t at rest.
    let others = some_mapped (λ us. t ∷ us) (terms_picked cs picks) ts rest in
    record { first = t; is_first = at; others = others.0; are_others = others.1; all = others.2 })

pub taken_beside : (cs : List ControlledTree) (picks : List ℕ) (ts : List TermTree) (s : ℕ) → terms_picked cs picks ≡ Some ts →
    term_taken cs picks s ≡ beside s (map (λ c. c.signal) cs) ts
taken_beside [] [] ts s picked = refl
taken_beside [] (pick ∷ picks) ts s picked = absurd (none-some ts picked)
taken_beside (c ∷ cs) [] ts s picked = absurd (none-some ts picked)
taken_beside (c ∷ cs) (pick ∷ picks) ts s picked =
    let parts = picked_parts c cs pick picks ts picked in
    let rest = taken_beside cs picks parts.others s parts.are_others in
    (λ i. cond (c.signal == s) (parts.is_first i) (rest i)) ∙ ap (beside s (c.signal ∷ map (λ d. d.signal) cs)) parts.all

pub picks_there : (cs : List ControlledTree) (picks : List ℕ) (ts : List TermTree) → terms_picked cs picks ≡ Some ts → ArePicks cs picks
picks_there [] [] ts picked = tt
picks_there [] (pick ∷ picks) ts picked = absurd (none-some ts picked)
picks_there (c ∷ cs) [] ts picked = absurd (none-some ts picked)
picks_there (c ∷ cs) (pick ∷ picks) ts picked =
    let parts = picked_parts c cs pick picks ts picked in
    (slice_get_within c.choices pick parts.first parts.is_first, picks_there cs picks parts.others parts.are_others)

-- one more term
pub picked_push : (cs : List ControlledTree) (picks : List ℕ) (ts : List TermTree) (c : ControlledTree) (pick : ℕ) (t : TermTree) →
    terms_picked cs picks ≡ Some ts → slice_get c.choices pick ≡ Some t →
    terms_picked (cs ++ c ∷ []) (picks ++ pick ∷ []) ≡ Some (ts ++ t ∷ [])
picked_push [] [] ts c pick t picked at =
    ap (option_and_then (λ u. option_map (λ us. u ∷ us) (Some []))) at ∙ ap (λ us. Some (us ++ t ∷ [])) (same_Some [] ts picked)
picked_push [] (p ∷ picks) ts c pick t picked at = absurd (none-some ts picked)
picked_push (d ∷ cs) [] ts c pick t picked at = absurd (none-some ts picked)
picked_push (d ∷ cs) (p ∷ picks) ts c pick t picked at =
    let parts = picked_parts d cs p picks ts picked in
    ap (option_and_then (λ u. option_map (λ us. u ∷ us) (terms_picked (cs ++ c ∷ []) (picks ++ pick ∷ [])))) parts.is_first
    ∙ ap (option_map (λ us. parts.first ∷ us)) (picked_push cs picks parts.others c pick t parts.are_others at)
    ∙ ap (λ us. Some (us ++ t ∷ [])) parts.all

-- the bit of a choice is the first bit and the choice's place
pub picked_place : (c : ControlledTree) (t : TermTree) (bit : ℕ) → Some bit ≡ bit_of_choice c t →
    slice_get c.choices (bit - c.first) ≡ Some t
picked_place c t bit is =
    let place = some_mapped (λ k. c.first + k) (position (λ u. same_tree u t) c.choices) bit (sym is) in
    let found = position-Some (λ u. same_tree u t) c.choices place.0 t place.1 in
    let e : bit - c.first ≡ place.0 = omega (arith, place.2) in
    ap (slice_get c.choices) e ∙ slice_get-get_or c.choices place.0 t found.0 ∙ ap Some (same_tree_is _ t found.1)

-- terms that are choices are as many as the signals, and each has a bit
pub chosen_count : (cs : List ControlledTree) (ts : List TermTree) → are_terms_chosen cs ts ≡ true → length cs ≡ length ts
chosen_count [] [] chosen = refl
chosen_count [] (t ∷ ts) chosen = absurd (false≢true chosen)
chosen_count (c ∷ cs) [] chosen = absurd (false≢true chosen)
chosen_count (c ∷ cs) (t ∷ ts) chosen = ap suc (chosen_count cs ts (and_parts _ _ chosen).1)

chosen_at : (cs : List ControlledTree) (ts : List TermTree) (i : ℕ) (c : ControlledTree) (t : TermTree) → are_terms_chosen cs ts ≡ true →
    slice_get cs i ≡ Some c → slice_get ts i ≡ Some t → is_some (bit_of_choice c t) ≡ true
chosen_at [] ts i c t chosen at_c at_t = absurd (none-some c at_c)
chosen_at (d ∷ cs) [] i c t chosen at_c at_t = absurd (none-some t at_t)
chosen_at (d ∷ cs) (u ∷ ts) zero c t chosen at_c at_t =
    sym (λ i. is_some (bit_of_choice (same_Some d c at_c i) (same_Some u t at_t i))) ∙ (and_parts _ _ chosen).0
chosen_at (d ∷ cs) (u ∷ ts) (suc i) c t chosen at_c at_t = chosen_at cs ts i c t (and_parts _ _ chosen).1 at_c at_t

-- a loop over signals and terms
module _ (xs : List Controlled) (terms : List Term) (i : ℕ) (x : Controlled) (t : Term) (within : i < length xs)
    (is_x : x ≡ get_or xs i x)
    (inside : i < length terms) (is_t : t ≡ get_or terms i t) where
  pub term_is_chosen : are_terms_chosen (map controlled_tree xs) (map term_tree terms) ≡ true →
      is_some (bit_of_choice (controlled_tree x) (term_tree t)) ≡ true
  term_is_chosen chosen =
      chosen_at (map controlled_tree xs) (map term_tree terms) i (controlled_tree x) (term_tree t) chosen
      (slice_get_image controlled_tree xs i x (slice_get_read xs (length xs) i x refl within is_x))
      (slice_get_image term_tree terms i t (slice_get_read terms (length terms) i t refl inside is_t))

  pub picked_more : (picks : List ℕ) (pick : ℕ) →
      terms_picked (map controlled_tree (take i xs)) picks ≡ Some (map term_tree (take i terms)) →
      slice_get (controlled_tree x).choices pick ≡ Some (term_tree t) →
      terms_picked (map controlled_tree (take (i + 1) xs)) (picks ++ pick ∷ []) ≡ Some (map term_tree (take (i + 1) terms))
  picked_more picks pick picked at =
      ap (λ cs. terms_picked cs (picks ++ pick ∷ [])) (more controlled_tree xs x within is_x)
      ∙ picked_push (map controlled_tree (take i xs)) picks (map term_tree (take i terms)) (controlled_tree x) pick
      (term_tree t) picked at
      ∙ ap Some (sym (more term_tree terms t inside is_t))
    where
      more : {X Y : Type 0} (f : X → Y) (ys : List X) (y : X) → i < length ys → y ≡ get_or ys i y →
          map f (take (i + 1) ys) ≡ map f (take i ys) ++ f y ∷ []
      more f ys y below is =
          ap (map f) (take_more ys i y below) ∙ map-append f (take i ys) (get_or ys i y ∷ [])
          ∙ ap (λ z. map f (take i ys) ++ f z ∷ []) (sym is)

pub picked_all : (xs : List Controlled) (terms : List Term) (n : ℕ) (picks : List ℕ) → length xs ≤ n →
    are_terms_chosen (map controlled_tree xs) (map term_tree terms) ≡ true →
    terms_picked (map controlled_tree (take n xs)) picks ≡ Some (map term_tree (take n terms)) →
    terms_picked (map controlled_tree xs) picks ≡ Some (map term_tree terms)
picked_all xs terms n picks past chosen picked =
    let count = chosen_count (map controlled_tree xs) (map term_tree terms) chosen in
    ap (λ ys. terms_picked (map controlled_tree ys) picks) (sym (take_all n xs past)) ∙ picked
    ∙ ap (λ ts. Some (map term_tree ts)) (take_all n terms
    (omega (arith, past, count, length-map xs controlled_tree, length-map terms term_tree)))
