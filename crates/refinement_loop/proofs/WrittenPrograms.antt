-- The program of a controller that answers the question for a specification is accepted, and realizes the specification, where its
-- windows are those of a chain.
use Rattle.std.proofs.Common.{◌≡◌, ◌∙◌, ℕ, Bool, true, not, List, [], ◌∷◌, ◌++◌, length, None}
use Rattle.std.proofs.Common.{refl, sym, ap, subst, inl, inr, arith}
use Rattle.std.specs.List.{list_all, AllByRecursion, position}
use Rattle.std.proofs.lemmas.Bool.{and_from, false≢true}
use Rattle.base_library.proofs.Each.{each_weaker}
use Rattle.base_library.proofs.Passes.{passes_at}
use Rattle.tsl_terms.specs.SpecTree.{SpecTree}
use Rattle.tsl_terms.specs.Signals.{inputs_of, cells_of, outputs_of, choices_of}
use Rattle.tsl_terms.specs.Predicates.{predicates_of}
use Rattle.tsl_terms.specs.WindowTree.{WindowTree}
use Rattle.tsl_terms.specs.Congruence.{IsCongruent}
use Rattle.tsl_terms.specs.Equality.{equality_in}
use Rattle.tsl_terms.specs.Laws.{FormulasFit}
use Rattle.program_tree.specs.ProgramTree.{ProgramTree}
use Rattle.program_tree.specs.Fits.{IsProgram}
use Rattle.tsl_meaning.specs.Promise.{Realizes}
use Rattle.letter_space.specs.SpaceTree.{SpaceTree, IsSpace}
use Rattle.letter_space.specs.SpecSpace.{spec_space}
use Rattle.letter_space.proofs.Places.{position_tells}
use Rattle.letter_space.proofs.SpecSpaces.{spec_is_space}
use Rattle.cobuchi_automata.specs.Automata.{IsAutomaton}
use Rattle.machines.specs.declared.side.Side.TheVariants.{Controller}
use Rattle.machines.specs.MachineTree.{ControllerTree}
use Rattle.machines.specs.Moves.{FitsSpace, controller_moves}
use Rattle.annotation_check.specs.Annotations.{edges_from, IsAnnotation}
use Rattle.control_flow_model.specs.ProgramBits.{node_has_bits, ProgramHasBits}
use Rattle.control_flow_model.proofs.FlowLemmas.{flow_has_bits, state_count, flow_walks, kept_below, first_kept}
use Rattle.program_check.specs.declared.verdict.Verdict.TheVariants.{Yes}
use Rattle.program_check.specs.Verdicts.{window_has_bits, form_for, IsOverBits, HasAnnotation, IsVerdict}
use Rattle.program_check.proofs.Accepted.{realized}
use Rattle.program_check.proofs.SpaceTerms.{signals_of}
use Rattle.bounded_encoding.specs.Question.{QuestionTree}
use Rattle.refinement_loop.specs.declared.outcome.Bound.{Bound}
use Rattle.refinement_loop.specs.Questions.{IsItsBound, IsWrittenFor}
use Rattle.refinement_loop.proofs.OneBound.{has_its_bound}
use Rattle.refinement_loop.proofs.RestrictedControllers.{numbers_by, restricted_annotation}
use Rattle.refinement_loop.proofs.KeptStates.{WalksAs, restricted, is_restriction, is_controller}
use Rattle.refinement_loop.proofs.RoundWindows.{IsKnown}

-- nothing is refused where each passes
none_refused : {X : Type 0} (passes : X → Bool) (xs : List X) → list_all passes xs ≡ true → position (λ x. not (passes x)) xs ≡ None
none_refused passes xs all = elim (position_tells (λ x. not (passes x)) xs) [
  | inl found ↦ absurd (false≢true (sym (ap not (passes_at passes xs found.0 found.1 all found.3)) ∙ found.4))
  | inr missing ↦ missing.0
]

known_have_bits : (spec : SpecTree) (windows : List WindowTree) → AllByRecursion (IsKnown spec) windows →
    list_all (window_has_bits (spec_space spec)) windows ≡ true
known_have_bits spec [] known = refl
known_have_bits spec (w ∷ windows) known =
    and_from (window_has_bits (spec_space spec) w) (list_all (window_has_bits (spec_space spec)) windows) known.0.bits
    (known_have_bits spec windows known.1)

module _ (spec : SpecTree) (windows : List WindowTree) (known : AllByRecursion (IsKnown spec) windows) (states : ℕ) (bound : Bound)
    (program : ProgramTree) (written : IsWrittenFor spec windows states bound program) where
  abbrev space : SpaceTree
  space = spec_space spec

  abbrev c : ControllerTree
  c = written.controller

  abbrev question : QuestionTree
  question = written.question

  pub is_space : IsSpace space
  is_space = spec_is_space spec written.asked.few_bits.few_predicates written.asked.few_bits.few_bits

  pub has_bits : ProgramHasBits space program
  has_bits =
      flow_has_bits c space (inputs_of spec) (cells_of spec) (outputs_of spec) windows program written.flow
      (signals_of (choices_of spec) (length (predicates_of spec)) (cells_of spec ++ outputs_of spec))

  pub windows_have_bits : list_all (window_has_bits space) program.windows ≡ true
  windows_have_bits = ap (list_all (window_has_bits space)) written.flow.has_windows ∙ known_have_bits spec windows known

  are_congruent : AllByRecursion (IsCongruent (cells_of spec) (equality_in spec.names)) windows
  are_congruent = each_weaker (IsKnown spec) (IsCongruent (cells_of spec) (equality_in spec.names)) (λ w is. is.congruent) windows known

  pub is_over : IsOverBits spec program
  is_over = record {
    signals = record { inputs = written.flow.has_inputs; cells = written.flow.has_cells; outputs = written.flow.has_outputs };
    nodes = none_refused (node_has_bits space) program.nodes has_bits.nodes;
    foreign = none_refused (window_has_bits space) program.windows windows_have_bits;
    sound = subst (λ cells. AllByRecursion (IsCongruent cells (equality_in spec.names)) program.windows) (sym written.flow.has_cells)
        (subst (AllByRecursion (IsCongruent (cells_of spec) (equality_in spec.names))) (sym written.flow.has_windows) are_congruent);
  }

  -- the controller of the program, and its annotation
  fits : FitsSpace space c
  fits = subst (λ s. FitsSpace s c) written.asked.space written.solution.fits

  walks_as : WalksAs space c program written.flow.kept
  walks_as = record {
    start = first_kept c written.flow.kept written.flow.are_kept;
    states = state_count c space (inputs_of spec) (cells_of spec) (outputs_of spec) windows program written.flow;
    below = kept_below c written.solution.table written.flow.kept written.flow.are_kept;
    walks = λ i s v e state entry.
        flow_walks c space (inputs_of spec) (cells_of spec) (outputs_of spec) windows program written.flow is_space v fits i s e state
        entry;
  }

  annotation : IsAnnotation (edges_from question.edges) (controller_moves space c) question.bound written.number
  annotation =
      subst (λ s. IsAnnotation (edges_from question.edges) (controller_moves s c) question.bound written.number) written.asked.space
      written.solution.annotation

  has_annotation : HasAnnotation spec program question.bound
  has_annotation = record {
    controller = restricted space c written.solution.table fits program written.flow.kept walks_as;
    edges = question.edges;
    question = record {
      controller = is_controller space c written.solution.table fits program written.flow.kept walks_as;
      states = written.asked.automaton_states;
      automaton = subst (λ ws. IsAutomaton (form_for Controller spec ws) written.asked.automaton_states question.edges)
          (sym written.flow.has_windows) written.asked.automaton;
      few_states = omega (arith, written.asked.counted, written.asked.few_automaton_states);
      few_edges = written.asked.few_edges;
    };
    number = numbers_by written.flow.kept written.number;
    annotation =
        restricted_annotation space c (restricted space c written.solution.table fits program written.flow.kept walks_as) written.flow.kept
        (is_restriction space c written.solution.table fits program written.flow.kept walks_as) (edges_from question.edges)
        question.bound written.number annotation;
  }

  -- with the number that is answered as the bound
  pub is_accepted : (number : ℕ) → IsItsBound spec windows states bound number → IsVerdict spec program number Yes
  is_accepted number its =
      (is_over, subst (HasAnnotation spec program) (has_its_bound spec windows states bound question number written.asked its) has_annotation)

  pub is_realized : FormulasFit spec → IsProgram program → Realizes spec program
  is_realized fit is_program = realized spec program question.bound fit is_program written.asked.few_bits is_over has_annotation
