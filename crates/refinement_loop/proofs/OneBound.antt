-- The bound of a question for a specification does not depend on how its automaton is numbered: automata of a formula have as many
-- states.
use Rattle.std.proofs.Common.{◌≡◌, ◌∙◌, ℕ, List, sym, ap}
use Rattle.tsl_terms.specs.SpecTree.{SpecTree}
use Rattle.tsl_terms.specs.WindowTree.{WindowTree}
use Rattle.cobuchi_automata.proofs.AutomatonLemmas.{renumbered}
use Rattle.machines.specs.declared.side.Side.{Side}
use Rattle.machines.specs.declared.side.Side.TheVariants.{Controller}
use Rattle.program_check.specs.Verdicts.{form_for}
use Rattle.bounded_encoding.specs.Question.{QuestionTree}
use Rattle.refinement_loop.specs.declared.outcome.Bound.{Bound}
use Rattle.refinement_loop.specs.Questions.{bound_under, IsAsked, IsItsBound}

module _ (side : Side) (spec : SpecTree) (windows : List WindowTree) (states : ℕ) (bound : Bound) (p q : QuestionTree)
    (first : IsAsked side spec windows states bound p) (second : IsAsked side spec windows states bound q) where
  pub same_automaton_states : p.automaton_states ≡ q.automaton_states
  same_automaton_states =
      sym first.counted
      ∙ (renumbered (form_for side spec windows) first.automaton_states p.edges second.automaton_states q.edges first.automaton
      second.automaton).as_many_states
      ∙ second.counted

  pub same_bound : p.bound ≡ q.bound
  same_bound = first.has_bound ∙ ap (bound_under bound states) same_automaton_states ∙ sym second.has_bound

-- a question has the bound that is answered
pub has_its_bound : (spec : SpecTree) (windows : List WindowTree) (states : ℕ) (bound : Bound) (q : QuestionTree) (number : ℕ) →
    IsAsked Controller spec windows states bound q → IsItsBound spec windows states bound number → q.bound ≡ number
has_its_bound spec windows states bound q number asked its =
    same_bound Controller spec windows states bound q its.question asked its.asked ∙ its.is
