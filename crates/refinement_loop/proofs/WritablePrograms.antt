-- The program of a controller that answers the question for a specification can be written over its names.
use Rattle.std.proofs.Common.{◌≡◌, ◌∙◌, ℕ, ◌*◌, ◌≤◌, true, List, [], ◌∷◌, ◌++◌, length, map, Option, Some, None, refl, sym, ap, subst, arith}
use Rattle.std.specs.Prelude.{is_some}
use Rattle.std.specs.List.{list_all, AllByRecursion}
use Rattle.std.proofs.lemmas.Bool.{and_parts, and_from}
use Rattle.std.proofs.Math.Nat.{mul-le-mul, pow-le-pow_right}
use Rattle.base_library.proofs.Each.{each_both, each_joined, each_map, each_weaker}
use Rattle.base_library.proofs.Passes.{each_from_list_all, list_all_from_each, list_all_weaker}
use Rattle.tsl_terms.specs.declared.names.NameKind.TheVariants.{Signal}
use Rattle.tsl_terms.specs.Name.{Name, is_name}
use Rattle.tsl_terms.specs.TermTree.{TermTree, ProbeTree, signal}
use Rattle.tsl_terms.specs.FormulaTree.{update}
use Rattle.tsl_terms.specs.Atoms.{atoms}
use Rattle.tsl_terms.specs.SpecTree.{SpecTree, whole_formula}
use Rattle.tsl_terms.specs.Signals.{is_cell}
use Rattle.tsl_terms.specs.WindowTree.{ListedTree, EquatedTree, WindowTree, window_probes, right_alone}
use Rattle.tsl_terms.specs.Equality.{equality_in}
use Rattle.tsl_terms.specs.Congruence.{IsEquality, SidesAreOne, IsCongruent}
use Rattle.tsl_terms.specs.WellFormed.{atom_fits, term_fits, SpecFits}
use Rattle.tsl_terms.proofs.WholeAtoms.{whole_is_made_of}
use Rattle.program_tree.specs.NodeTree.{NodeTree, branch, assign}
use Rattle.program_tree.specs.ProgramTree.{ProgramTree, controlled}
use Rattle.program_tree.specs.Fits.{IsProgram}
use Rattle.program_tree.specs.Writable.{IsWritable, signal_fits, term_is_writable, probe_is_writable}
use Rattle.program_tree.specs.Writable.{listed_is_writable, window_is_writable, HasEqualities, node_is_writable}
use Rattle.letter_space.specs.Bits.{bit_of_probe, bit_of_update}
use Rattle.letter_space.specs.SpecSpace.{spec_space}
use Rattle.letter_space.specs.Letters.{valuation_count}
use Rattle.tsl_terms.specs.Signals.{inputs_of, cells_of, outputs_of}
use Rattle.control_flow_model.proofs.FlowLemmas.{state_count, few_nodes, few_kept}
use Rattle.program_check.proofs.ProgramNames.{program_over, cell_named}
use Rattle.program_check.proofs.SpaceTerms.{node_passes, probe_with_bit, update_with_bit, nodes_pass}
use Rattle.refinement_loop.specs.declared.outcome.Bound.{Bound}
use Rattle.refinement_loop.specs.Questions.{IsWrittenFor}
use Rattle.refinement_loop.proofs.RoundWindows.{IsKnown, listed_of_cell}
use Rattle.refinement_loop.proofs.UsableSignals.{signal_fits_if_named}
use Rattle.refinement_loop.proofs.WrittenPrograms.{has_bits, windows_have_bits, is_over}

-- what has to be an equality in a congruent window is one
has_equalities : (cells : List ℕ) (names : List Name) (w : WindowTree) → IsCongruent cells (equality_in names) w →
    HasEqualities names w
has_equalities cells names w is =
    each_joined (IsEquality (equality_in names)) (map (λ (e : EquatedTree). e.probe) w.equalities) (right_alone w.left w.right)
    (each_map (IsEquality (equality_in names)) (λ (e : EquatedTree). e.probe) w.equalities is.equalities) (alone w.left is.sides)
  where
    alone : (left : Option ProbeTree) → SidesAreOne cells (equality_in names) w left →
        AllByRecursion (IsEquality (equality_in names)) (right_alone left w.right)
    alone None sides = (sides.0, tt)
    alone (Some left) sides = tt

module _ (spec : SpecTree) (fits : SpecFits spec) where
  abbrev names : List Name
  names = spec.names

  atoms_fit : list_all (atom_fits names) (atoms (whole_formula spec)) ≡ true
  atoms_fit = (and_parts (list_all (atom_fits names) (atoms (whole_formula spec))) _
      (whole_is_made_of (atom_fits names) spec fits.formulas)).0

  term_written : (s : ℕ) (t : TermTree) → atom_fits names (update s t) ≡ true → term_is_writable names t ≡ true
  term_written s t fit = (and_parts (signal_fits names s) (term_is_writable names t) fit).1

  cell_written : (s : ℕ) → is_cell spec s ≡ true → term_is_writable names (signal s) ≡ true
  cell_written s cell =
      and_from (term_fits names (signal s)) true (signal_fits_if_named names s fits.names (cell_named spec fits.formulas s cell)) refl

  node_written : (n : NodeTree) → node_passes (probe_is_writable names) (term_is_writable names) n ≡ true → node_is_writable names n ≡ true
  node_written (branch t a b) passes = passes
  node_written (assign ts go) passes = passes

  -- windows
  probe_written : (p : ProbeTree) → is_some (bit_of_probe (spec_space spec) p) ≡ true → probe_is_writable names p ≡ true
  probe_written =
      probe_with_bit spec (atom_fits names) atoms_fit (probe_is_writable names) (λ p fit. fit) (term_is_writable names) term_written
      cell_written

  listed_written : (u : ListedTree) →
      (is_cell spec u.signal ≡ true) × (is_some (bit_of_update (spec_space spec) u.signal u.term) ≡ true) →
      listed_is_writable names u ≡ true
  listed_written u is =
      and_from (signal_fits names u.signal) (term_is_writable names u.term)
      (signal_fits_if_named names u.signal fits.names (cell_named spec fits.formulas u.signal is.0))
      (update_with_bit spec (atom_fits names) atoms_fit (probe_is_writable names) (λ p fit. fit) (term_is_writable names) term_written
      cell_written u.signal u.term is.1)

  window_written : (w : WindowTree) → IsKnown spec w → window_is_writable names w ≡ true
  window_written w known =
      let both = and_parts _ _ known.bits in
      and_from _ _
      (list_all_weaker (λ p. is_some (bit_of_probe (spec_space spec) p)) (probe_is_writable names) probe_written (window_probes w) both.0)
      (list_all_from_each (listed_is_writable names) w.updates
      (each_both (λ (u : ListedTree). is_cell spec u.signal ≡ true)
      (λ (u : ListedTree). is_some (bit_of_update (spec_space spec) u.signal u.term) ≡ true)
      (λ (u : ListedTree). listed_is_writable names u ≡ true) (λ u cell bit. listed_written u (cell, bit)) w.updates
      (listed_of_cell spec w known.shaped)
      (each_from_list_all (λ (u : ListedTree). is_some (bit_of_update (spec_space spec) u.signal u.term)) w.updates both.1)))

  windows_written : (windows : List WindowTree) → AllByRecursion (IsKnown spec) windows →
      list_all (window_is_writable names) windows ≡ true
  windows_written [] known = refl
  windows_written (w ∷ windows) known =
      and_from (window_is_writable names w) (list_all (window_is_writable names) windows) (window_written w known.0)
      (windows_written windows known.1)

  module _ (windows : List WindowTree) (known : AllByRecursion (IsKnown spec) windows) (states : ℕ) (bound : Bound) (program : ProgramTree)
      (written : IsWrittenFor spec windows states bound program) where
    few_states : length program.states ≤ states
    few_states =
        let count = state_count written.controller (spec_space spec) (inputs_of spec) (cells_of spec) (outputs_of spec) windows program
        written.flow in
        let kept = few_kept written.controller written.solution.table written.flow.kept written.flow.are_kept in
        omega (arith, count, kept, written.solution.states, written.asked.has_states)

    few_valuations : valuation_count (spec_space spec) ≤ 1024
    few_valuations = pow-le-pow_right {n = 2} (omega arith) written.asked.few_bits.few_predicates

    pub is_writable : states ≤ 8 → length windows ≤ 64 → IsProgram program → IsWritable names program
    is_writable few few_windows is_program = record {
      signals = list_all_weaker (λ s. is_name names s Signal 0) (signal_fits names)
          (λ s named. signal_fits_if_named names s fits.names named) (program.inputs ++ controlled program)
          (program_over spec fits.formulas program is_program (is_over spec windows known states bound program written).signals
          (windows_have_bits spec windows known states bound program written)
          (has_bits spec windows known states bound program written).nodes).signals;
      windows = ap (list_all (window_is_writable names)) written.flow.has_windows ∙ windows_written windows known;
      equalities = subst (AllByRecursion (HasEqualities names)) (sym written.flow.has_windows)
          (each_weaker (IsKnown spec) (HasEqualities names) (λ w is. has_equalities (cells_of spec) names w is.congruent) windows known);
      nodes = list_all_weaker (node_passes (probe_is_writable names) (term_is_writable names)) (node_is_writable names) node_written
          program.nodes (nodes_pass spec (atom_fits names) atoms_fit (probe_is_writable names) (λ p fit. fit) (term_is_writable names)
          term_written cell_written program.nodes (has_bits spec windows known states bound program written).nodes);
      few_windows = omega (arith, few_windows, ap (λ (ws : List WindowTree). length ws) written.flow.has_windows);
      few_nodes = omega (arith, nodes);
      few_states = omega (arith, few_states, few);
    }
      where
        nodes : length program.nodes ≤ 8 * 2048
        nodes =
            let each = few_nodes written.controller (spec_space spec) (inputs_of spec) (cells_of spec) (outputs_of spec) windows program
            written.flow in
            let most : length program.states * (2 * valuation_count (spec_space spec)) ≤ 8 * 2048 =
            mul-le-mul {n₁ = length program.states} {m₁ = 2 * valuation_count (spec_space spec)} {n₂ = 8} {m₂ = 2048}
            (omega (arith, few_states, few)) (omega (arith, few_valuations)) in
            omega (arith, each, most)
