-- What an answer to the question for a controller says.
use Rattle.std.specs.Prelude.{◌≡◌, ◌≤◌, ℕ, ◌*◌, List, length, Option}
use Rattle.clause_core.specs.Literals.{Lit}
use Rattle.refutation_check.specs.declared.limits.TheConstants.{MOST_CLAUSES}
use Rattle.refutation_check.specs.declared.steps.Step.{Step}
use Rattle.sat_core.specs.Answers.{AreRefuting, IsWholeTrace}
use Rattle.machines.specs.MachineTree.{ControllerTree}
use Rattle.machines.specs.MachineView.{controller_tree}
use Rattle.annotation_check.specs.Annotations.{number_of_pair}
use Rattle.bounded_encoding.specs.Question.{QuestionTree, IsSolution, HasNoController}
use Rattle.bounded_encoding.specs.Variables.{variable_count}
use Rattle.bounded_encoding.specs.Encoding.{encoding}
use Rattle.bounded_encoding.specs.declared.answers.Found.{Found}
use Rattle.bounded_encoding.specs.declared.answers.Found.TheVariants.{Controller, None, Spent}

-- a controller that answers the question, and an annotation of it by the list of its numbers
pub record IsFoundController (q : QuestionTree) (c : ControllerTree) (most : ℕ) (numbers : List (Option ℕ)) : Type 0 where
  pub solution : IsSolution q c (number_of_pair q.automaton_states numbers)
  pub bound : most ≡ q.bound
  pub one_each : length numbers ≡ q.states * q.automaton_states

-- the clauses of the question with a refutation of them: there is no controller
pub record IsRefuted (q : QuestionTree) (count : ℕ) (list : List (List Lit)) (steps : List Step) : Type 0 where
  pub variables : count ≡ variable_count q
  pub clauses : list ≡ encoding q
  pub refuting : AreRefuting (variable_count q) (encoding q) steps
  pub none : HasNoController q

-- what each answer says
abbrev pub IsRightFound : QuestionTree → ℕ → Found → Type 0
IsRightFound q budget (Controller c a) = IsFoundController q (controller_tree c) a.bound a.numbers
IsRightFound q budget (None cnf log) = IsRefuted q cnf.variables cnf.clauses log.steps
IsRightFound q budget (Spent clauses) = IsWholeTrace (variable_count q) (encoding q) budget clauses

-- the answer is right where so many clauses may be learnt, and the question has no more clauses than there may be
pub record IsFound (q : QuestionTree) (budget : ℕ) (found : Found) : Type 0 where
  pub few : length (encoding q) ≤ MOST_CLAUSES
  pub right : IsRightFound q budget found
