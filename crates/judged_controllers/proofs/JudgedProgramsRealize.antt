-- The program of a machine that has an annotation for an automaton of a formula of the meaning that is asked for realizes the
-- specification.
use Rattle.std.proofs.Common.{◌≡◌, ℕ, ◌≤◌, true, List, [], ◌++◌, length, Option, sym, ap, subst, arith}
use Rattle.std.specs.List.{list_all, AllByRecursion}
use Rattle.tsl_terms.specs.SpecTree.{SpecTree, whole_formula}
use Rattle.tsl_terms.specs.Signals.{inputs_of, cells_of, outputs_of, choices_of}
use Rattle.tsl_terms.specs.Predicates.{predicates_of}
use Rattle.tsl_terms.specs.WindowTree.{window_formula_of}
use Rattle.tsl_terms.specs.Congruence.{IsCongruent}
use Rattle.tsl_terms.specs.Equality.{equality_in}
use Rattle.tsl_terms.specs.Laws.{FormulasFit}
use Rattle.program_tree.specs.ProgramTree.{ProgramTree}
use Rattle.program_tree.specs.Fits.{IsProgram}
use Rattle.tsl_meaning.specs.Promise.{EveryRunMeets, Realizes}
use Rattle.letter_space.specs.SpaceTree.{SpaceTree}
use Rattle.letter_space.specs.SpecSpace.{spec_space}
use Rattle.letter_space.proofs.SpecSpaces.{spec_is_space, spec_has_bits}
use Rattle.cobuchi_automata.specs.Automata.{EdgeTree}
use Rattle.machines.specs.MachineTree.{ControllerTree, IsController}
use Rattle.machines.specs.Moves.{controller_moves}
use Rattle.annotation_check.specs.Annotations.{edges_from, IsAnnotation}
use Rattle.control_flow_model.specs.ProgramBits.{ProgramHasBits}
use Rattle.control_flow_model.specs.ControllerOf.{IsControllerOf}
use Rattle.control_flow_model.specs.Flow.{IsFlowOf}
use Rattle.control_flow_model.proofs.FlowLemmas.{flow_has_bits, state_count, few_kept}
use Rattle.program_check.specs.Verdicts.{HasFewBits, HasSignals, window_has_bits}
use Rattle.program_check.proofs.ProgramNames.{program_over}
use Rattle.program_check.proofs.SpaceTerms.{signals_of}
use Rattle.judged_controllers.specs.Rewritten.{IsAutomatonFor}
use Rattle.judged_controllers.proofs.JudgedProgramsMeet.{judged_program_meets}

module _ (spec : SpecTree) (machine : ControllerTree) (program : ProgramTree)
    (flow : IsFlowOf machine (spec_space spec) (inputs_of spec) (cells_of spec) (outputs_of spec) [] program) where
  pub has_bits : ProgramHasBits (spec_space spec) program
  has_bits =
      flow_has_bits machine (spec_space spec) (inputs_of spec) (cells_of spec) (outputs_of spec) [] program flow
      (signals_of (choices_of spec) (length (predicates_of spec)) (cells_of spec ++ outputs_of spec))

  pub has_signals : HasSignals spec program
  has_signals = record { inputs = flow.has_inputs; cells = flow.has_cells; outputs = flow.has_outputs }

  -- it has no more states than the machine
  pub few_states : IsController machine → length program.states ≤ machine.states
  few_states table =
      let count = state_count machine (spec_space spec) (inputs_of spec) (cells_of spec) (outputs_of spec) [] program flow in
      let kept = few_kept machine table flow.kept flow.are_kept in
      omega (arith, count, kept)

  pub windows_have_bits : list_all (window_has_bits (spec_space spec)) program.windows ≡ true
  windows_have_bits = ap (list_all (window_has_bits (spec_space spec))) flow.has_windows

  pub judged : FormulasFit spec → HasFewBits spec → IsProgram program → (c : ControllerTree) → IsControllerOf (spec_space spec) program c →
      (edges : List EdgeTree) → IsAutomatonFor spec [] edges → (bound : ℕ) (number : ℕ → ℕ → Option ℕ) →
      IsAnnotation (edges_from edges) (controller_moves (spec_space spec) c) bound number → Realizes spec program
  judged fit few is_program c is_controller edges asked bound number annotation = record {
    over_names = program_over spec fit program is_program has_signals windows_have_bits has_bits.nodes;
    inputs = flow.has_inputs;
    cells = flow.has_cells;
    outputs = flow.has_outputs;
    runs = judged_program_meets (spec_space spec) program c (whole_formula spec) asked.formula asked.states edges bound number
        (spec_is_space spec few.few_predicates few.few_bits) has_bits is_controller (spec_has_bits spec fit) asked.same asked.automaton
        annotation spec.names;
    congruent = subst (AllByRecursion (IsCongruent program.cells (equality_in spec.names))) (sym flow.has_windows) tt;
    windows = subst (AllByRecursion (λ w. EveryRunMeets spec.names program (window_formula_of w))) (sym flow.has_windows) tt;
  }

  -- the same over a space that is that of the specification
  pub judged_over : FormulasFit spec → HasFewBits spec → IsProgram program → (space : SpaceTree) → space ≡ spec_space spec →
      (c : ControllerTree) → IsControllerOf space program c → (edges : List EdgeTree) → IsAutomatonFor spec [] edges →
      (bound : ℕ) (number : ℕ → ℕ → Option ℕ) → IsAnnotation (edges_from edges) (controller_moves space c) bound number →
      Realizes spec program
  judged_over fit few is_program space same c is_controller edges asked bound number annotation =
      judged fit few is_program c (subst (λ s. IsControllerOf s program c) same is_controller) edges asked bound number
      (subst (λ s. IsAnnotation (edges_from edges) (controller_moves s c) bound number) same annotation)
