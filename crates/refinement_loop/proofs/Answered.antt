-- What an answer to a question says of the specification that it was asked for.
use Rattle.std.proofs.Common.{◌≡◌, ℕ, ◌<◌, ◌≤◌, List, length, subst, refl, arith}
use Rattle.std.proofs.lemmas.List.{length-map}
use Rattle.tsl_terms.specs.SpecTree.{SpecTree}
use Rattle.tsl_terms.specs.Signals.{inputs_of, cells_of, outputs_of}
use Rattle.tsl_terms.specs.WindowTree.{WindowTree}
use Rattle.program_tree.specs.ProgramTree.{ProgramTree}
use Rattle.letter_space.specs.declared.limits.TheConstants.{MOST_PREDICATES, MOST_BITS}
use Rattle.letter_space.specs.declared.space.Space.{Space}
use Rattle.letter_space.specs.SpaceTree.{SpaceTree, bit_count}
use Rattle.letter_space.specs.SpaceView.{space_tree}
use Rattle.letter_space.specs.SpecSpace.{spec_space}
use Rattle.cobuchi_automata.specs.declared.automaton.Automaton.{Automaton}
use Rattle.cobuchi_automata.specs.Automata.{StateTree, IsAutomaton}
use Rattle.cobuchi_automata.specs.Edges.{edge_tree, edge_trees}
use Rattle.cobuchi_automata.specs.Refusals.{most_automaton_states, most_automaton_edges}
use Rattle.machines.specs.declared.controller.Controller.{Controller}
use Rattle.machines.specs.declared.environment.Environment.{Environment}
use Rattle.machines.specs.declared.side.Side.{Side}
use Rattle.machines.specs.declared.side.Side.TheVariants as sides
use Rattle.machines.specs.MachineView.{controller_tree, environment_tree}
use Rattle.annotation_check.specs.declared.annotating.Annotation.{Annotation}
use Rattle.annotation_check.specs.Annotations.{number_of_pair}
use Rattle.control_flow_model.specs.Flow.{IsFlowOf}
use Rattle.program_check.specs.Verdicts.{form_for}
use Rattle.clause_core.specs.declared.formulas.Cnf.{Cnf}
use Rattle.refutation_check.specs.declared.limits.TheConstants.{MOST_CLAUSES}
use Rattle.refutation_check.specs.declared.steps.Log.{Log}
use Rattle.bounded_encoding.specs.Question.{QuestionTree}
use Rattle.bounded_encoding.specs.QuestionView.{question_of}
use Rattle.bounded_encoding.specs.Encoding.{encoding}
use Rattle.bounded_encoding.specs.Answers.{IsFound}
use Rattle.bounded_encoding.specs.declared.answers.Found.{Found}
use Rattle.bounded_encoding.specs.declared.answers.Found.TheVariants as founds
use Rattle.bounded_encoding.specs.declared.errors.EncodeError.{EncodeError}
use Rattle.bounded_encoding.specs.declared.errors.EncodeError.TheVariants as encodes
use Rattle.counterstrategy.specs.DualAnswers.{IsFoundDual, HasDualCause}
use Rattle.counterstrategy.specs.declared.dual_answers.FoundDual.{FoundDual}
use Rattle.counterstrategy.specs.declared.dual_answers.FoundDual.TheVariants as found_duals
use Rattle.counterstrategy.specs.declared.dual_error.DualError.{DualError}
use Rattle.counterstrategy.specs.declared.dual_error.DualError.TheVariants as duals
use Rattle.refinement_loop.specs.declared.outcome.Bound.{Bound}
use Rattle.refinement_loop.specs.declared.outcome.Bound.TheVariants.{Fixed}
use Rattle.refinement_loop.specs.Questions.{bound_under, IsAsked, HasNoSolution, IsWrittenFor, IsCounterstrategy, HasNoCounterstrategy}
use Rattle.refinement_loop.specs.Outcomes.{HasAskCause}
use Rattle.refinement_loop.specs.Refusals.{refused_encoding, refused_dual}
use Rattle.refinement_loop.specs.declared.outcome.Search.{Search}
use Rattle.refinement_loop.specs.internal.Turns.{HasFurtherCause}
use Rattle.refinement_loop.proofs.OneAnswer.{none_of, no_environment_of}

-- the question of a specification's bits and automaton is the one that is asked
pub asked_of : (side : Side) (spec : SpecTree) (windows : List WindowTree) (space : Space) (automaton : Automaton) (states : ℕ)
    (bound : Bound) →
    space_tree space ≡ spec_space spec →
    (made : List StateTree) × (length made ≡ automaton.states)
    × IsAutomaton (form_for side spec windows) made (edge_trees automaton.edges) →
    automaton.states ≤ most_automaton_states → length automaton.edges ≤ most_automaton_edges →
    IsAsked side spec windows states bound (question_of automaton space states (bound_under bound states automaton.states))
asked_of side spec windows space automaton states bound same made few_states few_edges = record {
  few_bits = record {
    few_predicates = subst (λ (s : SpaceTree). length s.predicates ≤ MOST_PREDICATES) same space.is_space.few_predicates;
    few_bits = subst (λ s. bit_count s ≤ MOST_BITS) same space.is_space.few_bits;
  };
  space = same;
  automaton_states = made.0;
  automaton = made.2;
  counted = made.1;
  few_automaton_states = few_states;
  few_edges = omega (arith, few_edges, length-map automaton.edges edge_tree);
  has_states = refl;
  has_bound = refl;
}

-- ---- controllers

module _ (spec : SpecTree) (windows : List WindowTree) (states : ℕ) (bound : Bound) (q : QuestionTree)
    (asked : IsAsked sides.Controller spec windows states bound q) where
  -- a refusal of the encoding is one of the question
  pub refused_question : (cause : EncodeError) → (cause ≡ encodes.Clauses → MOST_CLAUSES < length (encoding q)) →
      HasAskCause spec windows states bound (refused_encoding cause)
  refused_question encodes.Clauses many = record { question = q; asked = asked; many = many refl }
  refused_question encodes.NoMemory many = tt

  -- a refutation of one question tells that there is no solution
  pub none_found : (budget : ℕ) (found : Found) (cnf : Cnf) (log : Log) → IsFound q budget found → found ≡ founds.None cnf log →
      HasNoSolution spec windows states bound
  none_found budget found cnf log answer is =
      let right : IsFound q budget (founds.None cnf log) = subst (IsFound q budget) is answer in
      none_of spec windows states bound q asked right.few right.right.none

  -- a controller that is found gives a program that is written
  pub written_of : (budget : ℕ) (found : Found) (c : Controller) (a : Annotation) (program : ProgramTree) → IsFound q budget found →
      found ≡ founds.Controller c a →
      IsFlowOf (controller_tree c) (spec_space spec) (inputs_of spec) (cells_of spec) (outputs_of spec) windows program →
      IsWrittenFor spec windows states bound program
  written_of budget found c a program answer is flow =
      let right : IsFound q budget (founds.Controller c a) = subst (IsFound q budget) is answer in
      record {
        question = q;
        asked = asked;
        few = right.few;
        controller = controller_tree c;
        number = number_of_pair q.automaton_states a.numbers;
        solution = right.right.solution;
        flow = flow;
      }

-- ---- environments

module _ (spec : SpecTree) (search : Search) (windows : List WindowTree) (q : QuestionTree)
    (asked : IsAsked sides.Environment spec windows search.env_states (Fixed search.env_bound) q) where
  pub refused_environment : (cause : DualError) → HasDualCause q cause → HasFurtherCause spec search windows (refused_dual cause)
  refused_environment duals.Vectors many = record { question = q; asked = asked; refused = many }
  refused_environment duals.Clauses many = record { question = q; asked = asked; refused = many }
  refused_environment duals.NoMemory many = tt

  pub no_environment_found : (budget : ℕ) (found : FoundDual) (log : Log) → IsFoundDual q budget found → found ≡ found_duals.None log →
      HasNoCounterstrategy spec windows search.env_states (Fixed search.env_bound)
  no_environment_found budget found log answer is =
      let right : IsFoundDual q budget (found_duals.None log) = subst (IsFoundDual q budget) is answer in
      no_environment_of spec windows search.env_states (Fixed search.env_bound) q asked right.limits right.right.none

  pub environment_found : (budget : ℕ) (found : FoundDual) (e : Environment) (a : Annotation) → IsFoundDual q budget found →
      found ≡ found_duals.Environment e a → IsCounterstrategy spec windows search.env_states (Fixed search.env_bound) (environment_tree e)
  environment_found budget found e a answer is =
      let right : IsFoundDual q budget (found_duals.Environment e a) = subst (IsFoundDual q budget) is answer in
      record {
        question = q;
        asked = asked;
        limits = right.limits;
        number = number_of_pair q.automaton_states a.numbers;
        solution = right.right.solution;
      }
