-- The program of a machine can be written over the names of the specification, where it is not too large.
use Rattle.std.proofs.Common.{◌≡◌, ℕ, ◌≤◌, true, List, [], ◌++◌, length, sym, ap, subst, refl, arith}
use Rattle.std.specs.List.{list_all, AllByRecursion}
use Rattle.std.proofs.lemmas.Bool.{and_parts, and_from}
use Rattle.base_library.proofs.Passes.{list_all_weaker}
use Rattle.tsl_terms.specs.declared.names.NameKind.TheVariants.{Signal}
use Rattle.tsl_terms.specs.Name.{Name, is_name}
use Rattle.tsl_terms.specs.TermTree.{TermTree, signal}
use Rattle.tsl_terms.specs.FormulaTree.{update}
use Rattle.tsl_terms.specs.Atoms.{atoms}
use Rattle.tsl_terms.specs.SpecTree.{SpecTree, whole_formula}
use Rattle.tsl_terms.specs.Signals.{is_cell, inputs_of, cells_of, outputs_of}
use Rattle.tsl_terms.specs.WellFormed.{atom_fits, term_fits, SpecFits}
use Rattle.tsl_terms.proofs.WholeAtoms.{whole_is_made_of}
use Rattle.program_tree.specs.NodeTree.{NodeTree, branch, assign}
use Rattle.program_tree.specs.ProgramTree.{ProgramTree, controlled}
use Rattle.program_tree.specs.Fits.{IsProgram}
use Rattle.program_tree.specs.Writable.{IsWritable, signal_fits, term_is_writable, probe_is_writable, window_is_writable, HasEqualities}
use Rattle.program_tree.specs.Writable.{node_is_writable, most_nodes, most_states}
use Rattle.letter_space.specs.SpecSpace.{spec_space}
use Rattle.machines.specs.MachineTree.{ControllerTree}
use Rattle.control_flow_model.specs.Flow.{IsFlowOf}
use Rattle.program_check.proofs.ProgramNames.{program_over, cell_named}
use Rattle.program_check.proofs.SpaceTerms.{node_passes, nodes_pass}
use Rattle.judged_controllers.proofs.UsableSignals.{signal_fits_if_named}
use Rattle.judged_controllers.proofs.JudgedProgramsRealize.{has_bits, has_signals, windows_have_bits}

module _ (spec : SpecTree) (fits : SpecFits spec) where
  abbrev names : List Name
  names = spec.names

  atoms_fit : list_all (atom_fits names) (atoms (whole_formula spec)) ≡ true
  atoms_fit = (and_parts (list_all (atom_fits names) (atoms (whole_formula spec))) _
      (whole_is_made_of (atom_fits names) spec fits.formulas)).0

  term_written : (s : ℕ) (t : TermTree) → atom_fits names (update s t) ≡ true → term_is_writable names t ≡ true
  term_written s t fit = (and_parts (signal_fits names s) (term_is_writable names t) fit).1

  cell_written : (s : ℕ) → is_cell spec s ≡ true → term_is_writable names (signal s) ≡ true
  cell_written s cell =
      and_from (term_fits names (signal s)) true (signal_fits_if_named names s fits.names (cell_named spec fits.formulas s cell)) refl

  node_written : (n : NodeTree) → node_passes (probe_is_writable names) (term_is_writable names) n ≡ true → node_is_writable names n ≡ true
  node_written (branch t a b) passes = passes
  node_written (assign ts go) passes = passes

  module _ (machine : ControllerTree) (program : ProgramTree)
      (flow : IsFlowOf machine (spec_space spec) (inputs_of spec) (cells_of spec) (outputs_of spec) [] program) where
    pub writable : IsProgram program → length program.nodes ≤ most_nodes → length program.states ≤ most_states → IsWritable names program
    writable is_program few_nodes few_states = record {
      signals = list_all_weaker (λ s. is_name names s Signal 0) (signal_fits names)
          (λ s named. signal_fits_if_named names s fits.names named) (program.inputs ++ controlled program)
          (program_over spec fits.formulas program is_program (has_signals spec machine program flow)
          (windows_have_bits spec machine program flow) (has_bits spec machine program flow).nodes).signals;
      windows = ap (list_all (window_is_writable names)) flow.has_windows;
      equalities = subst (AllByRecursion (HasEqualities names)) (sym flow.has_windows) tt;
      nodes = list_all_weaker (node_passes (probe_is_writable names) (term_is_writable names)) (node_is_writable names) node_written
          program.nodes (nodes_pass spec (atom_fits names) atoms_fit (probe_is_writable names) (λ p fit. fit) (term_is_writable names)
          term_written cell_written program.nodes (has_bits spec machine program flow).nodes);
      few_windows = subst (λ ws. length ws ≤ 64) (sym flow.has_windows) (omega arith);
      few_nodes = few_nodes;
      few_states = few_states;
    }
