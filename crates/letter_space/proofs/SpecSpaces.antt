-- The bits of a specification are a space where they are few, and each atom of its whole formula has one.
use Rattle.std.proofs.Common.{
  ◌≡◌,
  ◌∙◌,
  ℕ,
  zero,
  suc,
  ◌+◌,
  ◌<◌,
  ◌≤◌,
  ◌==◌,
  nat_lt,
  Bool,
  true,
  false,
  cond,
  ◌&&◌,
  ◌||◌,
  List,
  [],
  ◌∷◌,
  ◌++◌,
  length,
  map,
  flat_map,
  Some,
  IsSome,
  is_some,
  option_and_then,
  slice_get,
  inl,
  inr,
  refl,
  sym,
  ap,
  subst,
  arith,
}
use Rattle.std.specs.List.{list_all, list_any, position}
use Rattle.std.proofs.lemmas.Bool.{and_parts, or_left, lt-ltb, eqb-true, false≢true}
use Rattle.std.proofs.lemmas.List.Folds.{list_any-append}
use Rattle.std.proofs.lemmas.List.{append_assoc, length-append, length-map}
use Rattle.tsl_terms.specs.declared.term.Probe.{Probe}
use Rattle.tsl_terms.specs.TermTree.{probe_tree}
use Rattle.letter_space.specs.declared.controlled.Controlled.{Controlled}
use Rattle.letter_space.specs.ControlledView.{controlled_tree, space_with}
use Rattle.std.proofs.lemmas.Option.{none-some, same_Some}
use Rattle.base_library.specs.Numbers.{is_among, IsDistinct}
use Rattle.base_library.proofs.Booleans.{eqb_self}
use Rattle.base_library.proofs.Numbers.{distinct_behind}
use Rattle.base_library.proofs.Each.{each_from_places}
use Rattle.base_library.proofs.Finds.{find_none_at}
use Rattle.base_library.proofs.Options.{map_there}
use Rattle.base_library.proofs.Passes.{list_all_filter, list_all_joined, passes_at, list_any_place}
use Rattle.tsl_terms.specs.TermTree.{TermTree, signal}
use Rattle.tsl_terms.specs.FormulaTree.{Atom, test, update}
use Rattle.tsl_terms.specs.Atoms.{atoms}
use Rattle.tsl_terms.specs.SameTree.{same_tree, same_probe_tree}
use Rattle.tsl_terms.specs.SpecTree.{SpecTree, whole_formula}
use Rattle.tsl_terms.specs.Signals.{
  atom_updates,
  formula_updates,
  term_for,
  terms_for,
  is_cell,
  is_output,
  name_numbers,
  inputs_of,
  cells_of,
  outputs_of,
  choices_of,
}
use Rattle.tsl_terms.specs.OnlyThese.{atom_updates_only}
use Rattle.tsl_terms.specs.Predicates.{probe_of, probes_in, predicates_of}
use Rattle.tsl_terms.specs.Laws.{FormulasFit}
use Rattle.tsl_terms.proofs.SameLemmas.{same_tree_is, same_tree_itself, same_probe_is, same_probe_itself}
use Rattle.tsl_terms.proofs.SignalFacts.{distinct_signals, whole_updates}
use Rattle.letter_space.specs.declared.limits.TheConstants.{MOST_PREDICATES, MOST_BITS}
use Rattle.letter_space.specs.SpaceTree.{ControlledTree, choice_count, bit_count, bits_follow, has_choice, IsSpace}
use Rattle.base_library.specs.Once.{StandOnce}
use Rattle.letter_space.specs.SpecSpace.{controlled_from, spec_space}
use Rattle.letter_space.specs.Bits.{bit_of_choice, controlled_with, bit_of_atom, HasBits}
use Rattle.letter_space.proofs.Places.{position_tells}
use Rattle.letter_space.proofs.Once.{any_flat_map_at, once_without_repeats, has_without_repeats, some_without_repeats}

-- signals with their choices

module _ (choices : ℕ → List TermTree) where
  signals_are : (first : ℕ) (signals : List ℕ) → map (λ c. c.signal) (controlled_from choices first signals) ≡ signals
  signals_are first [] = refl
  signals_are first (s ∷ signals) = ap (λ ss. s ∷ ss) (signals_are (first + length (choices s)) signals)

  in_order : (first : ℕ) (signals : List ℕ) → bits_follow first (controlled_from choices first signals) ≡ true
  in_order first [] = refl
  in_order first (s ∷ signals) =
      ap (λ b. b && bits_follow (first + length (choices s)) (controlled_from choices (first + length (choices s)) signals))
      (eqb_self first)
      ∙ in_order (first + length (choices s)) signals

  all_chosen : (first : ℕ) (signals : List ℕ) → list_all (λ s. nat_lt 0 (length (choices s))) signals ≡ true →
      list_all has_choice (controlled_from choices first signals) ≡ true
  all_chosen first [] all = refl
  all_chosen first (s ∷ signals) all =
      let parts = and_parts (nat_lt 0 (length (choices s))) (list_all (λ r. nat_lt 0 (length (choices r))) signals) all in
      λ i. parts.0 i && all_chosen (first + length (choices s)) signals parts.1 i

  each_once : ((s : ℕ) → StandOnce (choices s)) → (first : ℕ) (signals : List ℕ) (i : ℕ) (c : ControlledTree) →
      slice_get (controlled_from choices first signals) i ≡ Some c → StandOnce c.choices
  each_once once first [] i c at = absurd (none-some c at)
  each_once once first (s ∷ signals) zero c at = subst (λ d. StandOnce d.choices) (same_Some _ c at) (once s)
  each_once once first (s ∷ signals) (suc i) c at = each_once once (first + length (choices s)) signals i c at

  controlled_there : (first : ℕ) (signals : List ℕ) (s : ℕ) → is_among signals s ≡ true →
      (c : ControlledTree) × (controlled_with (controlled_from choices first signals) s ≡ Some c) × (c.choices ≡ choices s)
  controlled_there first [] s stands = absurd (false≢true stands)
  controlled_there first (r ∷ signals) s stands = by (r == s) refl (controlled_there (first + length (choices r)) signals s)
    where
      by : (b : Bool) → (r == s) ≡ b →
          (is_among signals s ≡ true →
          (c : ControlledTree) × (controlled_with (controlled_from choices (first + length (choices r)) signals) s ≡ Some c)
          × (c.choices ≡ choices s)) →
          (c : ControlledTree)
          × (cond b (Some (record { signal = r; choices = choices r; first = first }))
          (controlled_with (controlled_from choices (first + length (choices r)) signals) s) ≡ Some c)
          × (c.choices ≡ choices s)
      by true equal rest = (record { signal = r; choices = choices r; first = first }, refl, ap choices (eqb-true r s equal))
      by false other rest = rest (ap (λ b. b || is_among signals s) (sym other) ∙ stands)

-- a signal that is updated has a term for it
some_term : (s : ℕ) (among : List Atom) → list_any (atom_updates s) among ≡ true →
    0 < length (flat_map (term_for s) among)
some_term s [] updates = absurd (false≢true updates)
some_term s (test p ∷ among) updates = some_term s among updates
some_term s (update r t ∷ among) updates = by (r == s) refl (some_term s among)
  where
    by : (b : Bool) → (r == s) ≡ b → (list_any (atom_updates s) among ≡ true → 0 < length (flat_map (term_for s) among)) →
        0 < length (cond b (t ∷ []) [] ++ flat_map (term_for s) among)
    by true equal rest = omega arith
    by false other rest = rest (ap (λ b. b || list_any (atom_updates s) among) (sym other) ∙ updates)

module _ (spec : SpecTree) where
  abbrev atoms_here : List Atom
  atoms_here = atoms (whole_formula spec)

  updated_has_choice : (s : ℕ) → formula_updates s (whole_formula spec) ≡ true → nat_lt 0 (length (choices_of spec s)) ≡ true
  updated_has_choice s updates =
      let terms = terms_for s (whole_formula spec) in
      let cell = cond (is_cell spec s) (signal s ∷ []) [] in
      lt-ltb 0 (length (choices_of spec s))
      (some_without_repeats same_tree (terms ++ cell) (omega (arith, some_term s atoms_here updates, length-append terms cell)))

  all_have_choices : list_all (λ s. nat_lt 0 (length (choices_of spec s))) (cells_of spec ++ outputs_of spec) ≡ true
  all_have_choices =
      list_all_joined (λ s. nat_lt 0 (length (choices_of spec s))) (cells_of spec) (outputs_of spec)
      (list_all_filter (is_cell spec) (λ s. nat_lt 0 (length (choices_of spec s)))
      (λ s cell. updated_has_choice s (and_parts (formula_updates s (whole_formula spec)) _ cell).0) (name_numbers spec))
      (list_all_filter (is_output spec) (λ s. nat_lt 0 (length (choices_of spec s)))
      (λ s output. updated_has_choice s (and_parts (formula_updates s (whole_formula spec)) _ output).0) (name_numbers spec))

  signals_once : IsDistinct (cells_of spec ++ outputs_of spec)
  signals_once =
      distinct_behind (inputs_of spec) (cells_of spec ++ outputs_of spec)
      (subst IsDistinct (append_assoc (inputs_of spec) (cells_of spec) (outputs_of spec)) (distinct_signals spec))

  pub spec_is_space : length (predicates_of spec) ≤ MOST_PREDICATES → bit_count (spec_space spec) ≤ MOST_BITS → IsSpace (spec_space spec)
  spec_is_space few_predicates few_bits = record {
    few_predicates = few_predicates;
    few_bits = few_bits;
    in_order = in_order (choices_of spec) (length (predicates_of spec)) (cells_of spec ++ outputs_of spec);
    chosen = all_chosen (choices_of spec) (length (predicates_of spec)) (cells_of spec ++ outputs_of spec) all_have_choices;
    predicates_once = once_without_repeats same_probe_tree same_probe_is same_probe_itself (probes_in (whole_formula spec));
    signals_once = subst IsDistinct (sym (signals_are (choices_of spec) (length (predicates_of spec)) (cells_of spec ++ outputs_of spec)))
        signals_once;
    choices_once = each_once (choices_of spec) (λ s. once_without_repeats same_tree same_tree_is same_tree_itself _)
        (length (predicates_of spec)) (cells_of spec ++ outputs_of spec);
  }

-- a member has a place
place_there : {X : Type 0} (passes : X → Bool) (xs : List X) → list_any passes xs ≡ true → IsSome (position passes xs)
place_there passes xs some = elim (position_tells passes xs) [
  | inl found ↦ ap is_some found.2
  | inr none ↦
      let there = list_any_place passes xs some in
      absurd (false≢true (sym (find_none_at passes xs there.0 there.1 none.1 there.2) ∙ there.3))
]

module _ (spec : SpecTree) (fits : FormulasFit spec) where
  atom_has_bit : (i : ℕ) (a : Atom) → slice_get (atoms (whole_formula spec)) i ≡ Some a → IsSome (bit_of_atom (spec_space spec) a)
  atom_has_bit i (test p) at =
      place_there (λ q. same_probe_tree q p) (predicates_of spec)
      (has_without_repeats same_probe_tree same_probe_is same_probe_itself (probes_in (whole_formula spec)) p
      (any_flat_map_at (λ q. same_probe_tree q p) probe_of (atoms (whole_formula spec)) i (test p) at
      (ap (λ b. b || false) (same_probe_itself p))))
  atom_has_bit i (update s t) at =
      let among : is_among (cells_of spec ++ outputs_of spec) s ≡ true =
      passes_at (atom_updates_only (cells_of spec ++ outputs_of spec)) (atoms (whole_formula spec)) i (update s t)
      (whole_updates spec fits) at in
      let there = controlled_there (choices_of spec) (length (predicates_of spec)) (cells_of spec ++ outputs_of spec) s among in
      let stands : list_any (λ u. same_tree u t) (choices_of spec s) ≡ true =
      has_without_repeats same_tree same_tree_is same_tree_itself _ t
      (list_any-append (λ u. same_tree u t) (terms_for s (whole_formula spec)) _
      ∙ or_left _ _ (any_flat_map_at (λ u. same_tree u t) (term_for s) (atoms (whole_formula spec)) i (update s t) at own)) in
      ap (λ o. is_some (option_and_then (λ c. bit_of_choice c t) o)) there.1
      ∙ map_there (λ k. there.0.first + k) (position (λ u. same_tree u t) there.0.choices)
      (place_there (λ u. same_tree u t) there.0.choices (ap (list_any (λ u. same_tree u t)) there.2 ∙ stands))
    where
      own : list_any (λ u. same_tree u t) (term_for s (update s t)) ≡ true
      own =
          ap (λ b. list_any (λ u. same_tree u t) (cond b (t ∷ []) [])) (eqb_self s)
          ∙ ap (λ b. b || false) (same_tree_itself t)

  pub spec_has_bits : HasBits (spec_space spec) (whole_formula spec)
  spec_has_bits = each_from_places (λ a. IsSome (bit_of_atom (spec_space spec) a)) (atoms (whole_formula spec)) atom_has_bit

-- the space that is made of what was found
pub made_space : (spec : SpecTree) (predicates : List Probe) (controlled : List Controlled) (first : ℕ) (signals : List ℕ) →
    map probe_tree predicates ≡ predicates_of spec → first ≡ length predicates → signals ≡ cells_of spec ++ outputs_of spec →
    map controlled_tree controlled ≡ controlled_from (choices_of spec) first signals →
    space_with predicates controlled ≡ spec_space spec
made_space spec predicates controlled first signals are count listed made =
    λ i. record { predicates = are i; controlled = followed i }
  where
    count_is : first ≡ length (predicates_of spec)
    count_is = count ∙ sym (length-map predicates probe_tree) ∙ ap length are

    followed : map controlled_tree controlled
        ≡ controlled_from (choices_of spec) (length (predicates_of spec)) (cells_of spec ++ outputs_of spec)
    followed = made ∙ (λ i. controlled_from (choices_of spec) (count_is i) (listed i))

pub made_is_space : (spec : SpecTree) (predicates : List Probe) (controlled : List Controlled) (first : ℕ) (signals : List ℕ) →
    map probe_tree predicates ≡ predicates_of spec → first ≡ length predicates → signals ≡ cells_of spec ++ outputs_of spec →
    map controlled_tree controlled ≡ controlled_from (choices_of spec) first signals → length predicates ≤ MOST_PREDICATES →
    first + choice_count (controlled_from (choices_of spec) first signals) ≤ MOST_BITS → IsSpace (space_with predicates controlled)
made_is_space spec predicates controlled first signals are count listed made few_predicates few_bits =
    subst IsSpace (sym (made_space spec predicates controlled first signals are count listed made))
    (spec_is_space spec (omega (arith, few_predicates, count_is))
    (subst (λ n. n ≤ MOST_BITS)
    (λ i. count_here i + choice_count (controlled_from (choices_of spec) (count_here i) (listed i))) few_bits))
  where
    count_is : length predicates ≡ length (predicates_of spec)
    count_is = sym (length-map predicates probe_tree) ∙ ap length are

    count_here : first ≡ length (predicates_of spec)
    count_here = count ∙ count_is
