-- What an answer to the question for an environment says, and why there is none.
use Rattle.std.specs.Prelude.{◌≡◌, ◌≤◌, ◌<◌, ℕ, ◌*◌, List, length, Option, ⊤}
use Rattle.letter_space.specs.declared.limits.TheConstants.{MOST_VECTORS}
use Rattle.refutation_check.specs.declared.limits.TheConstants.{MOST_CLAUSES}
use Rattle.refutation_check.specs.declared.steps.Step.{Step}
use Rattle.sat_core.specs.Answers.{AreRefuting, IsWholeTrace}
use Rattle.machines.specs.MachineTree.{EnvironmentTree}
use Rattle.machines.specs.MachineView.{environment_tree}
use Rattle.annotation_check.specs.Annotations.{number_of_pair}
use Rattle.bounded_encoding.specs.Question.{QuestionTree}
use Rattle.counterstrategy.specs.EnvironmentQuestion.{IsEnvironmentSolution, HasNoEnvironment}
use Rattle.counterstrategy.specs.DualVariables.{vectors_in_all, dual_variable_count}
use Rattle.counterstrategy.specs.DualEncoding.{dual_encoding}
use Rattle.counterstrategy.specs.declared.dual_error.DualError.{DualError}
use Rattle.counterstrategy.specs.declared.dual_error.DualError.TheVariants.{Vectors, Clauses, NoMemory}
use Rattle.counterstrategy.specs.declared.dual_answers.FoundDual.{FoundDual}
use Rattle.counterstrategy.specs.declared.dual_answers.FoundDual.TheVariants.{Environment, None, Spent}

-- a question can be asked where neither its vectors nor its clauses are too many
pub record IsAskable (q : QuestionTree) : Type 0 where
  pub few_vectors : vectors_in_all q ≤ MOST_VECTORS
  pub few_clauses : length (dual_encoding q) ≤ MOST_CLAUSES

-- why a question is refused: too many vectors; or not too many of them, and too many clauses
abbrev pub HasDualCause : QuestionTree → DualError → Type 0
HasDualCause q Vectors = MOST_VECTORS < vectors_in_all q
HasDualCause q Clauses = (vectors_in_all q ≤ MOST_VECTORS) × (MOST_CLAUSES < length (dual_encoding q))
HasDualCause q NoMemory = ⊤

-- an environment that answers the question, and an annotation of it by the list of its numbers
pub record IsFoundEnvironment (q : QuestionTree) (e : EnvironmentTree) (most : ℕ) (numbers : List (Option ℕ)) : Type 0 where
  pub solution : IsEnvironmentSolution q e (number_of_pair q.automaton_states numbers)
  pub bound : most ≡ q.bound
  pub one_each : length numbers ≡ q.states * q.automaton_states

-- a refutation of the question's clauses: there is no environment
pub record IsDualRefuted (q : QuestionTree) (steps : List Step) : Type 0 where
  pub refuting : AreRefuting (dual_variable_count q) (dual_encoding q) steps
  pub none : HasNoEnvironment q

-- what each answer says
abbrev pub IsRightDual : QuestionTree → ℕ → FoundDual → Type 0
IsRightDual q budget (Environment e a) = IsFoundEnvironment q (environment_tree e) a.bound a.numbers
IsRightDual q budget (None log) = IsDualRefuted q log.steps
IsRightDual q budget (Spent clauses) = IsWholeTrace (dual_variable_count q) (dual_encoding q) budget clauses

-- the answer is right where so many clauses may be learnt, and the question can be asked
pub record IsFoundDual (q : QuestionTree) (budget : ℕ) (found : FoundDual) : Type 0 where
  pub limits : IsAskable q
  pub right : IsRightDual q budget found
