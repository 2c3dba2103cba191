-- Internal: the clauses that a step may name: those of the formula, and those of the steps before it.
use Rattle.std.specs.Prelude.{ℕ, ◌<◌, List, ◌++◌, map, All, AllPairs}
use Rattle.clause_core.specs.Literals.{Lit}
use Rattle.clause_core.specs.Clauses.{IsOver}
use Rattle.refutation_check.specs.declared.steps.Step.{Step}
use Rattle.refutation_check.specs.Checking.{Numbered, numbered_from}

-- a step's clause with its number
abbrev pub numbered : Step → Numbered
numbered step = record { number = step.number; clause = step.clause }

-- the clauses that may be named after these steps
abbrev pub known_after : List (List Lit) → List Step → List Numbered
known_after clauses steps = numbered_from 1 clauses ++ map numbered steps

-- the numbers of the steps rise from above the number of clauses, and their clauses are over the variables
pub record AreAccepted (variables count : ℕ) (steps : List Step) : Type 0 where
  pub above : All (λ step. count < step.number) steps
  pub rise : AllPairs (λ earlier later. earlier.number < later.number) steps
  pub over : All (λ step. IsOver variables step.clause) steps
