-- The names of a specification hold each number of its bits.
use Rattle.std.proofs.Common.{◌≡◌, ℕ, zero, suc, ◌+◌, ◌≤◌, Bool, true, false, cond, List, [], ◌∷◌, ◌++◌, length}
use Rattle.std.proofs.Common.{IsTrue, filter, refl, arith}
use Rattle.std.specs.List.{list_all}
use Rattle.std.proofs.lemmas.Bool.{and_parts, and_from, lt-ltb}
use Rattle.base_library.specs.Numbers.{numbers_from}
use Rattle.base_library.proofs.Passes.{list_all_joined}
use Rattle.tsl_terms.specs.declared.names.NameKind.TheVariants.{Signal}
use Rattle.tsl_terms.specs.Name.{Name}
use Rattle.tsl_terms.specs.TermTree.{TermTree, ProbeTree, signal}
use Rattle.tsl_terms.specs.FormulaTree.{update, test}
use Rattle.tsl_terms.specs.Atoms.{atoms}
use Rattle.tsl_terms.specs.SpecTree.{SpecTree, whole_formula}
use Rattle.tsl_terms.specs.Signals.{is_cell, is_output, cells_of, outputs_of, choices_of}
use Rattle.tsl_terms.specs.WellFormed.{atom_fits, SpecFits}
use Rattle.tsl_terms.specs.Predicates.{predicates_of}
use Rattle.tsl_terms.proofs.WholeAtoms.{whole_is_made_of}
use Rattle.term_text.specs.TermText.{is_held, term_is_held, probe_is_held}
use Rattle.term_text.proofs.Held.{name_held, term_held, probe_held}
use Rattle.letter_space.specs.SpecSpace.{controlled_from, spec_space}
use Rattle.program_check.proofs.ProgramNames.{cell_named}
use Rattle.program_check.proofs.SpaceTerms.{predicates_pass, choices_pass}
use Rattle.environment_text.specs.EnvironmentText.{controlled_is_held, space_is_held}

module _ (spec : SpecTree) (fits : SpecFits spec) where
  abbrev names : List Name
  names = spec.names

  atoms_fit : list_all (atom_fits names) (atoms (whole_formula spec)) ≡ true
  atoms_fit = (and_parts (list_all (atom_fits names) (atoms (whole_formula spec))) _
      (whole_is_made_of (atom_fits names) spec fits.formulas)).0

  test_held : (p : ProbeTree) → atom_fits names (test p) ≡ true → probe_is_held names p ≡ true
  test_held p fit = probe_held names p (and_parts _ _ fit).0

  update_held : (s : ℕ) (t : TermTree) → atom_fits names (update s t) ≡ true → term_is_held names t ≡ true
  update_held s t fit = let parts = and_parts _ _ fit in term_held names t (and_parts _ _ parts.1).0

  cell_held : (s : ℕ) → is_cell spec s ≡ true → term_is_held names (signal s) ≡ true
  cell_held s cell = name_held names s Signal 0 (cell_named spec fits.formulas s cell)

  numbers_held : (p : ℕ → Bool) (first count : ℕ) → first + count ≤ length names →
      list_all (is_held names) (filter p (numbers_from first count)) ≡ true
  numbers_held p first zero below = refl
  numbers_held p first (suc count) below = by (p first) (numbers_held p (suc first) count (omega (arith, below)))
    where
      by : (b : Bool) → list_all (is_held names) (filter p (numbers_from (suc first) count)) ≡ true →
          list_all (is_held names) (cond b (first ∷ filter p (numbers_from (suc first) count)) (filter p (numbers_from (suc first) count)))
          ≡ true
      by true rest =
          and_from (is_held names first) (list_all (is_held names) (filter p (numbers_from (suc first) count)))
          (lt-ltb first (length names) (omega (arith, below))) rest
      by false rest = rest

  signals_held : list_all (is_held names) (cells_of spec ++ outputs_of spec) ≡ true
  signals_held =
      list_all_joined (is_held names) (cells_of spec) (outputs_of spec) (numbers_held (is_cell spec) 0 (length names) (omega arith))
      (numbers_held (is_output spec) 0 (length names) (omega arith))

  each_held : (first : ℕ) (signals : List ℕ) → list_all (is_held names) signals ≡ true →
      list_all (controlled_is_held names) (controlled_from (choices_of spec) first signals) ≡ true
  each_held first [] held = refl
  each_held first (s ∷ signals) held =
      let parts = and_parts (is_held names s) (list_all (is_held names) signals) held in
      and_from _ _
      (and_from _ _ parts.0
      (choices_pass spec (atom_fits names) atoms_fit (probe_is_held names) test_held (term_is_held names) update_held cell_held s))
      (each_held (first + length (choices_of spec s)) signals parts.1)

  pub space_held : IsTrue (space_is_held names (spec_space spec))
  space_held =
      and_from _ _
      (predicates_pass spec (atom_fits names) atoms_fit (probe_is_held names) test_held (term_is_held names) update_held cell_held)
      (each_held (length (predicates_of spec)) (cells_of spec ++ outputs_of spec) signals_held)
