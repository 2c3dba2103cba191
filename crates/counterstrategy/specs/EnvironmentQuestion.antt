-- The question for an environment with so many states that has an annotation within a bound.
-- Source: Finkbeiner, Schewe: Bounded Synthesis (STTT 2013).
use Rattle.std.specs.Prelude.{◌≡◌, ℕ, Option}
use Rattle.machines.specs.MachineTree.{EnvironmentTree, IsEnvironment}
use Rattle.annotation_check.specs.Annotations.{edges_from, IsAnnotation}
use Rattle.bounded_encoding.specs.Question.{QuestionTree}
use Rattle.machines.specs.Moves.{EnvironmentFits, environment_moves}

-- an environment with that many states that fits the space, and an annotation of it within the bound
pub record IsEnvironmentSolution (q : QuestionTree) (e : EnvironmentTree) (number : ℕ → ℕ → Option ℕ) : Type 0 where
  pub table : IsEnvironment e
  pub states : e.states ≡ q.states
  pub fits : EnvironmentFits q.space e
  pub annotation : IsAnnotation (edges_from q.edges) (environment_moves q.space e) q.bound number

-- there is none
abbrev pub HasNoEnvironment : QuestionTree → Type 0
HasNoEnvironment q = (e : EnvironmentTree) (number : ℕ → ℕ → Option ℕ) → IsEnvironmentSolution q e number → ⊥
