-- A program with the signals of a specification, whose tests are predicate terms and whose terms are choices, in nodes and windows,
-- is one over the specification's names.
use Rattle.std.proofs.Common.{◌≡◌, ◌∙◌, ℕ, ◌==◌, Bool, true, false, cond, List, [], ◌∷◌, ◌++◌, length, map}
use Rattle.std.proofs.Common.{refl, sym, ap, arith}
use Rattle.std.specs.Prelude.{filter, is_some}
use Rattle.std.specs.List.{list_all, AllByRecursion}
use Rattle.std.proofs.lemmas.Bool.{and_parts, and_from, eqb-true, false≢true}
use Rattle.std.proofs.lemmas.List.{length-map}
use Rattle.base_library.proofs.Each.{each_unmapped}
use Rattle.base_library.proofs.Finds.{found_has, found_passes}
use Rattle.base_library.proofs.Passes.{list_all_weaker, list_all_joined, passes_at, list_any_place, each_from_list_all}
use Rattle.tsl_terms.specs.declared.names.NameKind.TheVariants.{Signal}
use Rattle.tsl_terms.specs.declared.spec.Spec.{Spec}
use Rattle.tsl_terms.specs.Name.{Name, is_name}
use Rattle.tsl_terms.specs.TermTree.{TermTree, ProbeTree}
use Rattle.tsl_terms.specs.FormulaTree.{Atom, test, update}
use Rattle.tsl_terms.specs.Atoms.{atoms}
use Rattle.tsl_terms.specs.SpecTree.{SpecTree, whole_formula}
use Rattle.tsl_terms.specs.SpecView.{spec_tree}
use Rattle.tsl_terms.specs.Signals.{atom_updates, formula_updates, is_cell, is_output, is_input}
use Rattle.tsl_terms.specs.Signals.{name_numbers, inputs_of, cells_of, outputs_of, choices_of}
use Rattle.tsl_terms.specs.Predicates.{predicates_of}
use Rattle.tsl_terms.specs.WindowTree.{WindowTree, ListedTree, window_probes}
use Rattle.tsl_terms.specs.WellFormed.{atom_fits, formula_fits}
use Rattle.tsl_terms.specs.Laws.{FormulasFit}
use Rattle.tsl_terms.proofs.WholeAtoms.{fits_all, whole_is_made_of}
use Rattle.program_tree.specs.declared.program.Program.{Program}
use Rattle.program_tree.specs.NodeTree.{NodeTree, branch, assign, node_tree}
use Rattle.program_tree.specs.ProgramTree.{ProgramTree}
use Rattle.program_tree.specs.Fits.{IsProgram}
use Rattle.program_tree.specs.ProgramView.{program_tree}
use Rattle.tsl_meaning.specs.OverNames.{term_is_over, probe_is_over, listed_is_over, window_is_over, node_is_over, atom_is_over}
use Rattle.tsl_meaning.specs.OverNames.{IsProgramOver}
use Rattle.tsl_meaning.proofs.Naming.{atom_over}
use Rattle.letter_space.specs.SpaceTree.{ControlledTree}
use Rattle.letter_space.specs.Bits.{bit_of_probe, bit_of_update}
use Rattle.letter_space.specs.SpecSpace.{spec_space}
use Rattle.control_flow_model.specs.ProgramBits.{node_has_bits}
use Rattle.program_check.specs.Verdicts.{HasSignals, window_has_bits}
use Rattle.program_check.proofs.SpaceTerms.{node_passes, signals_of, updated_with_bit, probe_with_bit, update_with_bit, nodes_pass}

-- the formulas of a specification fit its names
pub spec_fits : (spec : Spec) → FormulasFit (spec_tree spec)
spec_fits spec =
    fits_all (formula_fits spec.names) (spec_tree spec) spec.assume_first_fits spec.assume_always_fits spec.guarantee_first_fits
    spec.guarantee_always_fits

-- a program keeps what every program keeps
pub keeps : (program : Program) → IsProgram (program_tree program)
keeps program = record {
  signals_distinct = program.signals_distinct;
  branches_fit = program.branches_fit;
  assignments_fit = program.assignments_fit;
  states_fit = (
    program.states_fit.0,
    λ s i at. let below = program.states_fit.1 s i at in omega (arith, below, length-map program.nodes node_tree),
  );
  windows_fit = program.windows_fit;
}

module _ (spec : SpecTree) (fits : FormulasFit spec) where
  abbrev names : List Name
  names = spec.names

  atoms_over : list_all (atom_is_over names) (atoms (whole_formula spec)) ≡ true
  atoms_over =
      list_all_weaker (atom_fits names) (atom_is_over names) (atom_over names) (atoms (whole_formula spec))
      (and_parts (list_all (atom_fits names) (atoms (whole_formula spec))) _ (whole_is_made_of (atom_fits names) spec fits)).0

  -- signals
  updated_named : (s : ℕ) → formula_updates s (whole_formula spec) ≡ true → is_name names s Signal 0 ≡ true
  updated_named s updated =
      let found = list_any_place (atom_updates s) (atoms (whole_formula spec)) updated in
      by found.1 (passes_at (atom_is_over names) (atoms (whole_formula spec)) found.0 found.1 atoms_over found.2) found.3
    where
      by : (a : Atom) → atom_is_over names a ≡ true → atom_updates s a ≡ true → is_name names s Signal 0 ≡ true
      by (test p) over updates = absurd (false≢true updates)
      by (update r t) over updates =
          ap (λ n. is_name names n Signal 0) (sym (eqb-true r s updates))
          ∙ (and_parts (is_name names r Signal 0) (term_is_over names t) over).0

  pub cell_named : (s : ℕ) → is_cell spec s ≡ true → is_name names s Signal 0 ≡ true
  cell_named s cell = updated_named s (and_parts (formula_updates s (whole_formula spec)) _ cell).0

  filtered_named : (p : ℕ → Bool) → ((s : ℕ) → p s ≡ true → is_name names s Signal 0 ≡ true) → (ns : List ℕ) →
      list_all (λ s. is_name names s Signal 0) (filter p ns) ≡ true
  filtered_named p named [] = refl
  filtered_named p named (n ∷ ns) = by (p n) refl (filtered_named p named ns)
    where
      by : (b : Bool) → p n ≡ b → list_all (λ s. is_name names s Signal 0) (filter p ns) ≡ true →
          list_all (λ s. is_name names s Signal 0) (cond b (n ∷ filter p ns) (filter p ns)) ≡ true
      by true passes rest = and_from (is_name names n Signal 0) (list_all (λ s. is_name names s Signal 0) (filter p ns))
          (named n passes) rest
      by false fails rest = rest

  inputs_named : list_all (λ s. is_name names s Signal 0) (inputs_of spec) ≡ true
  inputs_named = filtered_named (is_input spec) (λ s input. (and_parts (is_name names s Signal 0) _ input).0) (name_numbers spec)

  pub controlled_named : list_all (λ s. is_name names s Signal 0) (cells_of spec ++ outputs_of spec) ≡ true
  controlled_named =
      list_all_joined (λ s. is_name names s Signal 0) (cells_of spec) (outputs_of spec)
      (filtered_named (is_cell spec) cell_named (name_numbers spec))
      (filtered_named (is_output spec) (λ s output. updated_named s (and_parts (formula_updates s (whole_formula spec)) _ output).0)
      (name_numbers spec))

  -- terms
  update_over : (s : ℕ) (t : TermTree) → atom_is_over names (update s t) ≡ true → term_is_over names t ≡ true
  update_over s t over = (and_parts (is_name names s Signal 0) (term_is_over names t) over).1

  node_over : (n : NodeTree) → node_passes (probe_is_over names) (term_is_over names) n ≡ true → node_is_over names n ≡ true
  node_over (branch t a b) over = over
  node_over (assign ts go) over = over

  -- windows
  abbrev signal_named : ControlledTree → Type 0
  signal_named c = is_name names c.signal Signal 0 ≡ true

  each_named : AllByRecursion signal_named (spec_space spec).controlled
  each_named =
      each_unmapped (λ s. is_name names s Signal 0 ≡ true) (λ (c : ControlledTree). c.signal) (spec_space spec).controlled
      (each_from_list_all (λ s. is_name names s Signal 0) (map (λ (c : ControlledTree). c.signal) (spec_space spec).controlled)
      (ap (list_all (λ s. is_name names s Signal 0))
      (signals_of (choices_of spec) (length (predicates_of spec)) (cells_of spec ++ outputs_of spec)) ∙ controlled_named))

  listed_over : (u : ListedTree) → is_some (bit_of_update (spec_space spec) u.signal u.term) ≡ true → listed_is_over names u ≡ true
  listed_over u has =
      let found = updated_with_bit spec u.signal u.term has in
      let c : ControlledTree = found.0 in
      let named : signal_named c =
      found_has (λ (d : ControlledTree). d.signal == u.signal) signal_named (spec_space spec).controlled c each_named found.1 in
      let same : c.signal ≡ u.signal =
      eqb-true c.signal u.signal (found_passes (λ (d : ControlledTree). d.signal == u.signal) (spec_space spec).controlled c found.1) in
      and_from (is_name names u.signal Signal 0) (term_is_over names u.term)
      (ap (λ s. is_name names s Signal 0) (sym same) ∙ named)
      (update_with_bit spec (atom_is_over names) atoms_over (probe_is_over names) (λ p over. over) (term_is_over names) update_over
      cell_named u.signal u.term has)

  probe_over : (p : ProbeTree) → is_some (bit_of_probe (spec_space spec) p) ≡ true → probe_is_over names p ≡ true
  probe_over =
      probe_with_bit spec (atom_is_over names) atoms_over (probe_is_over names) (λ p over. over) (term_is_over names) update_over
      cell_named

  window_over : (w : WindowTree) → window_has_bits (spec_space spec) w ≡ true → window_is_over names w ≡ true
  window_over w has =
      let both = and_parts _ _ has in
      and_from _ _
      (list_all_weaker (λ p. is_some (bit_of_probe (spec_space spec) p)) (probe_is_over names) probe_over (window_probes w) both.0)
      (list_all_weaker (λ (u : ListedTree). is_some (bit_of_update (spec_space spec) u.signal u.term)) (listed_is_over names) listed_over
      w.updates both.1)

  pub program_over : (program : ProgramTree) → IsProgram program → HasSignals spec program →
      list_all (window_has_bits (spec_space spec)) program.windows ≡ true →
      list_all (node_has_bits (spec_space spec)) program.nodes ≡ true → IsProgramOver names program
  program_over program is_program same windows bits = record {
    is_program = is_program;
    signals = (λ i. list_all (λ s. is_name names s Signal 0) (same.inputs i ++ (same.cells i ++ same.outputs i)))
        ∙ list_all_joined (λ s. is_name names s Signal 0) (inputs_of spec)
        (cells_of spec ++ outputs_of spec) inputs_named controlled_named;
    windows = list_all_weaker (window_has_bits (spec_space spec)) (window_is_over names) window_over program.windows windows;
    nodes = list_all_weaker (node_passes (probe_is_over names) (term_is_over names)) (node_is_over names) node_over program.nodes
        (nodes_pass spec (atom_is_over names) atoms_over (probe_is_over names) (λ p over. over) (term_is_over names) update_over cell_named
        program.nodes bits);
  }
