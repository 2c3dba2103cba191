-- Where no controller answers a question with the full bound, each controller of that many states fails.
use Rattle.std.proofs.Common.{◌≡◌, ◌∙◌, ℕ, ◌*◌, Bool, true, false, not, List, length, map, refl, sym, ap₂, subst, inl, inr}
use Rattle.std.proofs.lemmas.Bool.{false≢true}
use Rattle.tsl_terms.specs.SpecTree.{SpecTree, whole_formula}
use Rattle.tsl_terms.specs.WindowTree.{WindowTree, under_windows}
use Rattle.tsl_meaning.specs.Lasso.{meets}
use Rattle.letter_space.specs.SpaceTree.{SpaceTree, IsSpace}
use Rattle.letter_space.specs.SpecSpace.{spec_space}
use Rattle.letter_space.proofs.SpecSpaces.{spec_is_space}
use Rattle.underapprox.specs.LetterLasso.{letter_lasso}
use Rattle.underapprox.proofs.Agreement.{form_is_read}
use Rattle.machines.specs.declared.side.Side.TheVariants.{Controller}
use Rattle.machines.specs.MachineTree.{ControllerTree}
use Rattle.machines.specs.MachineView.{round_tree}
use Rattle.machines.specs.Moves.{FitsSpace, controller_moves}
use Rattle.machines.specs.Rounds.{windows_of}
use Rattle.annotation_check.specs.Annotations.{edges_from, IsAnnotation}
use Rattle.program_check.specs.Verdicts.{form_for, formula_for}
use Rattle.refinement_loop.specs.declared.outcome.Bound.TheVariants.{Full}
use Rattle.refinement_loop.specs.declared.outcome.Outcome.{Outcome}
use Rattle.refinement_loop.specs.declared.outcome.Outcome.TheVariants as outcomes
use Rattle.refinement_loop.specs.declared.outcome.Sizes.{Sizes}
use Rattle.refinement_loop.specs.Questions.{HasNoSolution}
use Rattle.refinement_loop.specs.Outcomes.{search_with, IsOutcome}
use Rattle.full_bound.specs.Failing.{Fails}
use Rattle.full_bound.specs.FullBound.{FailsUnder, AllFail, WhereNone}
use Rattle.full_bound.proofs.ControllersFail.{controllers_fail}

is_false : (b : Bool) → not b ≡ true → b ≡ false
is_false false is = refl
is_false true is = absurd (false≢true is)

module _ (spec : SpecTree) (windows : List WindowTree) (states : ℕ) where
  -- a loop on which the negation holds is one on which the formula fails
  fails_under : (c : ControllerTree) → Fails (form_for Controller spec windows) (controller_moves (spec_space spec) c) →
      FailsUnder spec windows c
  fails_under c found =
      let loop = found.0 in
      record {
        loop = loop;
        state = found.1.state;
        runs = found.1.runs;
        goes_round = found.1.goes_round;
        fails = is_false (meets (letter_lasso (spec_space spec) loop) (under_windows windows (whole_formula spec)) 0)
            (sym (form_is_read (spec_space spec) loop (formula_for Controller spec windows) 0) ∙ found.1.holds_there);
      }

  pub all_fail : HasNoSolution spec windows states Full → AllFail spec windows states
  all_fail none c is count fits =
      let asked = none.asked in
      let q = none.question in
      let is_space : IsSpace (spec_space spec) = spec_is_space spec asked.few_bits.few_predicates asked.few_bits.few_bits in
      let product : c.states * length asked.automaton_states ≡ q.bound =
      ap₂ (λ m n. m * n) count asked.counted ∙ sym asked.has_bound in
      elim (controllers_fail (form_for Controller spec windows) asked.automaton_states q.edges asked.automaton (spec_space spec) is_space
      c is fits) [
        | inl found ↦ fails_under c found
        | inr annotated ↦
            absurd (none.none q asked c annotated.0
            (record {
              table = is;
              states = count ∙ sym asked.has_states;
              fits = subst (λ (s : SpaceTree). FitsSpace s c) (sym asked.space) fits;
              annotation = subst (λ (s : SpaceTree). IsAnnotation (edges_from q.edges) (controller_moves s c) q.bound annotated.0)
                  (sym asked.space)
                  (subst (λ b. IsAnnotation (edges_from q.edges) (controller_moves (spec_space spec) c) b annotated.0) product annotated.1);
            }))
      ]

-- so they do where an outcome is that there is none
pub all_fail_after : (spec : SpecTree) (sizes : Sizes) (outcome : Outcome) → IsOutcome spec (search_with sizes Full) outcome →
    WhereNone outcome (λ rounds. AllFail spec (windows_of rounds) sizes.states)
all_fail_after spec sizes (outcomes.Written rounds program) is = tt
all_fail_after spec sizes (outcomes.None rounds reason) is =
    all_fail spec (windows_of (map round_tree rounds)) sizes.states is.answer.0
all_fail_after spec sizes (outcomes.Spent rounds side automaton clauses) is = tt
