-- What an outcome leaves to others: no limit of the first question, and no round where a controller answers without windows.
use Rattle.std.proofs.Common.{◌≡◌, ℕ, List, [], ◌∷◌, map, refl}
use Rattle.tsl_terms.specs.SpecTree.{SpecTree}
use Rattle.machines.specs.declared.side.Side.{Side}
use Rattle.machines.specs.declared.side.Side.TheVariants.{Controller, Environment}
use Rattle.machines.specs.MachineView.{round_tree}
use Rattle.machines.specs.Rounds.{RoundTree}
use Rattle.cobuchi_automata.specs.Automata.{EdgeTree}
use Rattle.cobuchi_automata.specs.Edges.{edge_trees}
use Rattle.clause_core.specs.Literals.{Lit}
use Rattle.program_check.specs.declared.verdict.Limit.{Limit}
use Rattle.refinement_loop.specs.Questions.{HasSolution, HasNoSolution}
use Rattle.refinement_loop.specs.Chains.{IsChain}
use Rattle.refinement_loop.specs.Outcomes.{IsSpentIn, IsFirstAnswer, IsOutcome, IsLargeFor, IsLargeIn, at_controller, at_environment}
use Rattle.refinement_loop.specs.Outcomes.{IsLargeAfter}
use Rattle.refinement_loop.specs.declared.outcome.Search.{Search}
use Rattle.refinement_loop.specs.declared.outcome.Outcome.{Outcome}
use Rattle.refinement_loop.specs.declared.outcome.Outcome.TheVariants as outcomes
use Rattle.refinement_loop.proofs.OneAnswer.{not_both, not_answered}

module _ (spec : SpecTree) (search : Search) where
  -- the question for a controller has no answer without windows where a round was made
  pub first_has_none : (round : RoundTree) (rounds : List RoundTree) → IsChain spec search (round ∷ rounds) →
      HasNoSolution spec [] search.states search.bound
  first_has_none round rounds chain = chain.0.none

  -- no limit of the first question
  module _ (limit : Limit) (large : IsLargeFor spec [] search.states search.bound limit) where
    not_refuted : HasNoSolution spec [] search.states search.bound → ⊥
    not_refuted none = not_answered spec [] search.states search.bound none.question limit none.asked none.few large

    not_spent : (side : Side) (automaton_states : ℕ) (edges : List EdgeTree) (clauses : List (List Lit)) →
        IsSpentIn spec search [] side automaton_states edges clauses → ⊥
    not_spent Controller automaton_states edges clauses spent =
        not_answered spec [] search.states search.bound spent.question limit spent.asked spent.limits large
    not_spent Environment automaton_states edges clauses spent = not_refuted spent.0.none

    pub no_outcome : (outcome : Outcome) → IsOutcome spec search outcome → ⊥
    no_outcome (outcomes.Written [] program) is =
        not_answered spec [] search.states search.bound is.answer.question limit is.answer.asked is.answer.few large
    no_outcome (outcomes.Written (round ∷ rounds) program) is =
        not_refuted (first_has_none (round_tree round) (map round_tree rounds) is.chain)
    no_outcome (outcomes.None [] reason) is = not_refuted is.answer.0
    no_outcome (outcomes.None (round ∷ rounds) reason) is =
        not_refuted (first_has_none (round_tree round) (map round_tree rounds) is.chain)
    no_outcome (outcomes.Spent [] side automaton clauses) is =
        not_spent side automaton.states (edge_trees automaton.edges) clauses is.answer
    no_outcome (outcomes.Spent (round ∷ rounds) side automaton clauses) is =
        not_refuted (first_has_none (round_tree round) (map round_tree rounds) is.chain)

    at_first : (other : Limit) → IsLargeIn spec search [] other → IsLargeFor spec [] search.states search.bound other
    at_first other (at_controller there) = there
    at_first other (at_environment goes_on there) = absurd (not_refuted goes_on.none)

    pub told_first : (other : Limit) (rounds : List RoundTree) → IsLargeAfter spec search rounds other →
        (rounds ≡ []) × IsLargeFor spec [] search.states search.bound other
    told_first other [] after = (refl, at_first other after.large)
    told_first other (round ∷ rounds) after = absurd (not_refuted (first_has_none round rounds after.chain))

  -- no round where a controller answers without windows
  module _ (found : HasSolution spec [] search.states search.bound) where
    not_refuted_too : HasNoSolution spec [] search.states search.bound → ⊥
    not_refuted_too none = not_both spec [] search.states search.bound found none

    first_side : (side : Side) (automaton_states : ℕ) (edges : List EdgeTree) (clauses : List (List Lit)) →
        IsSpentIn spec search [] side automaton_states edges clauses → side ≡ Controller
    first_side Controller automaton_states edges clauses spent = refl
    first_side Environment automaton_states edges clauses spent = absurd (not_refuted_too spent.0.none)

    pub first_answer : (outcome : Outcome) → IsOutcome spec search outcome → IsFirstAnswer outcome
    first_answer (outcomes.Written [] program) is = refl
    first_answer (outcomes.Written (round ∷ rounds) program) is =
        absurd (not_refuted_too (first_has_none (round_tree round) (map round_tree rounds) is.chain))
    first_answer (outcomes.None [] reason) is = absurd (not_refuted_too is.answer.0)
    first_answer (outcomes.None (round ∷ rounds) reason) is =
        absurd (not_refuted_too (first_has_none (round_tree round) (map round_tree rounds) is.chain))
    first_answer (outcomes.Spent [] side automaton clauses) is =
        (refl, first_side side automaton.states (edge_trees automaton.edges) clauses is.answer)
    first_answer (outcomes.Spent (round ∷ rounds) side automaton clauses) is =
        absurd (not_refuted_too (first_has_none (round_tree round) (map round_tree rounds) is.chain))
