-- A formula under windows: where the formula of each window holds, it holds only if the formula itself does; and where the windows
-- have bits, each of its atoms has one.
use Rattle.std.proofs.Common.{◌≡◌, ◌∙◌, ℕ, true, not, ◌||◌, List, [], ◌∷◌, map, flat_map, IsSome, refl, sym, ap, subst}
use Rattle.std.specs.Prelude.{is_some}
use Rattle.std.specs.List.{list_all, AllByRecursion}
use Rattle.std.proofs.lemmas.Bool.{and_parts, and_from}
use Rattle.base_library.proofs.Each.{each_joined, each_flat_map, each_map, each_weaker}
use Rattle.base_library.proofs.Passes.{each_from_list_all}
use Rattle.tsl_terms.specs.FormulaTree.{Atom, test, update, FormulaTree, formulas_of}
use Rattle.tsl_terms.specs.Atoms.{atoms}
use Rattle.tsl_terms.specs.SpecTree.{SpecTree, conjunction_of, whole_formula}
use Rattle.tsl_terms.specs.WindowTree.{ListedTree, WindowTree, window_formula_of, under_windows, window_probes, window_atoms}
use Rattle.tsl_terms.specs.Laws.{FormulasFit}
use Rattle.tsl_terms.proofs.WindowAtoms.{windowed_atoms}
use Rattle.tsl_meaning.specs.Lasso.{Lasso, meets, meet_each, Meets}
use Rattle.letter_space.specs.SpaceTree.{SpaceTree}
use Rattle.letter_space.specs.Bits.{bit_of_probe, bit_of_update, bit_of_atom, HasBits}
use Rattle.letter_space.specs.SpecSpace.{spec_space}
use Rattle.letter_space.proofs.SpecSpaces.{spec_has_bits}
use Rattle.program_check.specs.Verdicts.{window_has_bits}

-- ---- what holds

module _ (run : Lasso) (i : ℕ) where
  all_met : (fs : List FormulaTree) → AllByRecursion (λ f. Meets run f i) fs →
      list_all (λ holds. holds) (meet_each run (formulas_of fs) i) ≡ true
  all_met [] each = refl
  all_met (f ∷ fs) each = and_from (meets run f i) _ each.0 (all_met fs each.1)

  conjunction_met : (fs : List FormulaTree) → AllByRecursion (λ f. Meets run f i) fs → Meets run (conjunction_of fs) i
  conjunction_met [] each = refl
  conjunction_met (f ∷ []) each = each.0
  conjunction_met (f ∷ g ∷ fs) each = all_met (f ∷ g ∷ fs) each

  pub met_without : (ws : List WindowTree) (f : FormulaTree) → AllByRecursion (λ w. Meets run (window_formula_of w) i) ws →
      Meets run (under_windows ws f) i → Meets run f i
  met_without [] f each met = met
  met_without (w ∷ ws) f each met =
      let hold = conjunction_met (map window_formula_of (w ∷ ws)) (each_map (λ g. Meets run g i) window_formula_of (w ∷ ws) each) in
      sym (ap (λ b. not b || meets run f i) hold) ∙ met

-- ---- what has bits

abbrev HasBit : SpaceTree → Atom → Type 0
HasBit space a = IsSome (bit_of_atom space a)

window_atoms_have_bits : (space : SpaceTree) (w : WindowTree) → window_has_bits space w ≡ true →
    AllByRecursion (HasBit space) (window_atoms w)
window_atoms_have_bits space w has =
    let both = and_parts _ _ has in
    each_joined (HasBit space) (map (λ (u : ListedTree). update u.signal u.term) w.updates) (map test (window_probes w))
    (each_map (HasBit space) (λ (u : ListedTree). update u.signal u.term) w.updates
    (each_from_list_all (λ (u : ListedTree). is_some (bit_of_update space u.signal u.term)) w.updates both.1))
    (each_map (HasBit space) test (window_probes w) (each_from_list_all (λ p. is_some (bit_of_probe space p)) (window_probes w) both.0))

pub under_has_bits : (spec : SpecTree) → FormulasFit spec → (ws : List WindowTree) →
    list_all (window_has_bits (spec_space spec)) ws ≡ true → HasBits (spec_space spec) (under_windows ws (whole_formula spec))
under_has_bits spec fits ws has =
    subst (AllByRecursion (HasBit (spec_space spec))) (sym (windowed_atoms ws (whole_formula spec)))
    (each_joined (HasBit (spec_space spec)) (flat_map window_atoms ws) (atoms (whole_formula spec))
    (each_flat_map (HasBit (spec_space spec)) window_atoms ws
    (each_weaker (λ w. window_has_bits (spec_space spec) w ≡ true) (λ w. AllByRecursion (HasBit (spec_space spec)) (window_atoms w))
    (window_atoms_have_bits (spec_space spec)) ws (each_from_list_all (window_has_bits (spec_space spec)) ws has)))
    (spec_has_bits spec fits))
