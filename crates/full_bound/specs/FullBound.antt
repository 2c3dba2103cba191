-- What it is worth that no controller answers a question with the full bound: each controller of that many states fails.
use Rattle.std.specs.Prelude.{◌≡◌, ℕ, ◌≤◌, false, List, length, map, ⊤}
use Rattle.tsl_terms.specs.SpecTree.{SpecTree, whole_formula}
use Rattle.tsl_terms.specs.WindowTree.{WindowTree, under_windows}
use Rattle.tsl_meaning.specs.Lasso.{meets}
use Rattle.ltl_formula.specs.LetterLoop.{LetterLoop}
use Rattle.letter_space.specs.SpecSpace.{spec_space}
use Rattle.underapprox.specs.LetterLasso.{letter_lasso}
use Rattle.machines.specs.MachineTree.{ControllerTree, IsController}
use Rattle.machines.specs.MachineView.{round_tree}
use Rattle.machines.specs.Moves.{FitsSpace, IsLoopOf, controller_moves}
use Rattle.machines.specs.Rounds.{RoundTree}
use Rattle.refinement_loop.specs.declared.outcome.Outcome.{Outcome}
use Rattle.refinement_loop.specs.declared.outcome.Outcome.TheVariants as outcomes

-- The controller runs along a loop of letters that goes round, and the formula under the windows does not hold on it, its tests and
-- updates read from the bits of the letters.
pub record FailsUnder (spec : SpecTree) (windows : List WindowTree) (c : ControllerTree) : Type 0 where
  pub loop : LetterLoop
  pub state : ℕ → ℕ
  pub runs : IsLoopOf (controller_moves (spec_space spec) c) loop state
  pub goes_round : 1 ≤ length loop.cycle
  pub fails : meets (letter_lasso (spec_space spec) loop) (under_windows windows (whole_formula spec)) 0 ≡ false

-- each controller with so many states over the bits of the specification does so
abbrev pub AllFail : SpecTree → List WindowTree → ℕ → Type 0
AllFail spec windows states =
    (c : ControllerTree) → IsController c → c.states ≡ states → FitsSpace (spec_space spec) c → FailsUnder spec windows c

-- what holds of the rounds, where no controller answers
abbrev pub WhereNone : Outcome → (List RoundTree → Type 0) → Type 0
WhereNone (outcomes.Written rounds program) P = ⊤
WhereNone (outcomes.None rounds reason) P = P (map round_tree rounds)
WhereNone (outcomes.Spent rounds side automaton clauses) P = ⊤
