-- Whether a question has a solution does not depend on how its automaton is numbered, and none is answered past a limit.
use Rattle.std.proofs.Common.{◌≡◌, ◌∙◌, ℕ, ◌<◌, ◌≤◌, List, length, Option, sym, subst, arith}
use Rattle.tsl_terms.specs.SpecTree.{SpecTree}
use Rattle.tsl_terms.specs.Predicates.{predicates_of}
use Rattle.tsl_terms.specs.WindowTree.{WindowTree}
use Rattle.program_tree.specs.ProgramTree.{ProgramTree}
use Rattle.letter_space.specs.declared.limits.TheConstants.{MOST_PREDICATES, MOST_BITS}
use Rattle.letter_space.specs.SpaceTree.{SpaceTree, bit_count}
use Rattle.letter_space.specs.SpecSpace.{spec_space}
use Rattle.cobuchi_automata.specs.Refusals.{most_automaton_states, most_automaton_edges}
use Rattle.cobuchi_automata.proofs.AutomatonLemmas.{has_choices, passes_states, passes_edges}
use Rattle.machines.specs.declared.side.Side.{Side}
use Rattle.machines.specs.declared.side.Side.TheVariants.{Controller, Environment}
use Rattle.machines.specs.MachineTree.{ControllerTree, EnvironmentTree}
use Rattle.machines.specs.Moves.{MoveTree, FitsSpace, controller_moves, EnvironmentFits, environment_moves}
use Rattle.annotation_check.specs.Annotations.{edges_from, IsAnnotation}
use Rattle.program_check.specs.declared.verdict.Limit.{Limit}
use Rattle.program_check.specs.declared.verdict.Limit.TheVariants.{Predicates, Bits, Choices, States, Edges, Clauses, Vectors, Branches}
use Rattle.program_check.specs.Verdicts.{form_for}
use Rattle.annotation_check.proofs.OtherNumbers.{annotated_there}
use Rattle.refutation_check.specs.declared.limits.TheConstants.{MOST_CLAUSES}
use Rattle.bounded_encoding.specs.Encoding.{encoding}
use Rattle.bounded_encoding.specs.Question.{QuestionTree, IsSolution, HasNoController}
use Rattle.counterstrategy.specs.EnvironmentQuestion.{IsEnvironmentSolution, HasNoEnvironment}
use Rattle.counterstrategy.specs.DualAnswers.{IsAskable}
use Rattle.refinement_loop.specs.declared.outcome.Bound.{Bound}
use Rattle.refinement_loop.specs.Questions.{IsAsked, HasFewClauses, HasSolution, HasNoSolution, IsWrittenFor, HasNoCounterstrategy}
use Rattle.refinement_loop.specs.Outcomes.{IsLargeFor}
use Rattle.refinement_loop.proofs.OneBound.{same_bound}
use Rattle.refinement_loop.proofs.EncodingSizes.{same_size}

module _ (spec : SpecTree) (windows : List WindowTree) (states : ℕ) (bound : Bound) where
  -- an annotation for one question that is asked gives one for each
  pub annotation_there : (side : Side) (p q : QuestionTree) → IsAsked side spec windows states bound p →
      IsAsked side spec windows states bound q → (moves : SpaceTree → ℕ → List MoveTree) (number : ℕ → ℕ → Option ℕ) →
      IsAnnotation (edges_from p.edges) (moves p.space) p.bound number →
      (there : ℕ → ℕ → Option ℕ) × IsAnnotation (edges_from q.edges) (moves q.space) q.bound there
  annotation_there side p q first second moves number annotation =
      let space : p.space ≡ q.space = first.space ∙ sym second.space in
      let bounds : p.bound ≡ q.bound = same_bound side spec windows states bound p q first second in
      let moved : IsAnnotation (edges_from p.edges) (moves q.space) q.bound number =
      subst (λ b. IsAnnotation (edges_from p.edges) (moves q.space) b number) bounds
      (subst (λ s. IsAnnotation (edges_from p.edges) (moves s) p.bound number) space annotation) in
      annotated_there (form_for side spec windows) first.automaton_states p.edges first.automaton second.automaton_states q.edges
      second.automaton (moves q.space) q.bound number moved

  -- so a solution of one gives one of each
  pub solution_there : (p q : QuestionTree) → IsAsked Controller spec windows states bound p →
      IsAsked Controller spec windows states bound q → (c : ControllerTree) (number : ℕ → ℕ → Option ℕ) → IsSolution p c number →
      (there : ℕ → ℕ → Option ℕ) × IsSolution q c there
  solution_there p q first second c number solution =
      let there = annotation_there Controller p q first second (λ s. controller_moves s c) number solution.annotation in (
        there.0,
        record {
          table = solution.table;
          states = solution.states ∙ first.has_states ∙ sym second.has_states;
          fits = subst (λ s. FitsSpace s c) (first.space ∙ sym second.space) solution.fits;
          annotation = there.1;
        },
      )

  pub environment_there : (p q : QuestionTree) → IsAsked Environment spec windows states bound p →
      IsAsked Environment spec windows states bound q → (e : EnvironmentTree) (number : ℕ → ℕ → Option ℕ) →
      IsEnvironmentSolution p e number → (there : ℕ → ℕ → Option ℕ) × IsEnvironmentSolution q e there
  environment_there p q first second e number solution =
      let there = annotation_there Environment p q first second (λ s. environment_moves s e) number solution.annotation in (
        there.0,
        record {
          table = solution.table;
          states = solution.states ∙ first.has_states ∙ sym second.has_states;
          fits = subst (λ s. EnvironmentFits s e) (first.space ∙ sym second.space) solution.fits;
          annotation = there.1;
        },
      )

  -- and that there is none for one tells that there is none for each
  pub none_of : (q : QuestionTree) → IsAsked Controller spec windows states bound q → HasFewClauses q → HasNoController q →
      HasNoSolution spec windows states bound
  none_of q asked few none = record {
    question = q;
    asked = asked;
    few = few;
    none = λ p other c number solution.
        let there = solution_there p q other asked c number solution in
        none c there.0 there.1;
  }

  pub no_environment_of : (q : QuestionTree) → IsAsked Environment spec windows states bound q → IsAskable q → HasNoEnvironment q →
      HasNoCounterstrategy spec windows states bound
  no_environment_of q asked limits none = record {
    question = q;
    asked = asked;
    limits = limits;
    none = λ p other e number solution.
        let there = environment_there p q other asked e number solution in
        none e there.0 there.1;
  }

  pub not_both : HasSolution spec windows states bound → HasNoSolution spec windows states bound → ⊥
  not_both found none = none.none found.question found.asked found.controller found.number found.solution

  pub not_written : (program : ProgramTree) → IsWrittenFor spec windows states bound program →
      HasNoSolution spec windows states bound → ⊥
  not_written program written none =
      none.none written.question written.asked written.controller written.number written.solution

  -- nothing is answered where a limit is passed
  pub not_answered : (q : QuestionTree) (limit : Limit) → IsAsked Controller spec windows states bound q → HasFewClauses q →
      IsLargeFor spec windows states bound limit → ⊥
  not_answered q Predicates asked few large =
      let within : length (predicates_of spec) ≤ MOST_PREDICATES = asked.few_bits.few_predicates in
      let beyond : MOST_PREDICATES < length (predicates_of spec) = large in
      omega (arith, within, beyond)
  not_answered q Bits asked few large =
      let within : bit_count (spec_space spec) ≤ MOST_BITS = asked.few_bits.few_bits in
      let beyond : MOST_BITS < bit_count (spec_space spec) = large.1 in
      omega (arith, within, beyond)
  not_answered q Choices asked few large =
      has_choices (form_for Controller spec windows) asked.automaton_states q.edges asked.automaton large.1
  not_answered q States asked few large =
      let within : length asked.automaton_states ≤ most_automaton_states = omega (arith, asked.counted, asked.few_automaton_states) in
      let beyond : most_automaton_states < length asked.automaton_states =
      passes_states (form_for Controller spec windows) asked.automaton_states q.edges asked.automaton large.1 in
      omega (arith, within, beyond)
  not_answered q Edges asked few large =
      let within : length q.edges ≤ most_automaton_edges = asked.few_edges in
      let beyond : most_automaton_edges < length q.edges =
      passes_edges (form_for Controller spec windows) asked.automaton_states q.edges asked.automaton large.1 in
      omega (arith, within, beyond)
  not_answered q Clauses asked few large =
      let within : length (encoding q) ≤ MOST_CLAUSES = few in
      let beyond : MOST_CLAUSES < length (encoding large.question) = large.many in
      omega (arith, within, beyond, same_size spec windows states bound q large.question asked large.asked)
  not_answered q Vectors asked few large = absurd large
  not_answered q Branches asked few large = absurd large
