-- How a log numbers its steps. The clauses of the formula have the numbers from 1 on, and the steps those after them.
use Rattle.std.specs.Prelude.{◌≡◌, ℕ, suc, ◌≤◌, ◌<◌, ⊤, All, List, [], ◌∷◌}
use Rattle.refutation_check.specs.declared.steps.Step.{Step}

-- the step has this number, and each of its hints is at least 1 and below that number
pub record IsNumbered (number : ℕ) (step : Step) : Type 0 where
  pub number_is : step.number ≡ number
  pub hints_earlier : All (λ hint. (1 ≤ hint) × (hint < number)) step.hints

-- the steps have the numbers from this one on, one after another, and their hints are numbers before their own
abbrev pub AreNumbered : ℕ → List Step → Type 0
AreNumbered number [] = ⊤
AreNumbered number (step ∷ steps) = IsNumbered number step × AreNumbered (suc number) steps
