-- What an answer of the solver says.
use Rattle.std.specs.Prelude.{◌≡◌, ℕ, ◌+◌, ◌<◌, ◌^◌, Bool, true, List, length, None}
use Rattle.clause_core.specs.Literals.{Lit}
use Rattle.clause_core.specs.Clauses.{assignment_of, meets_all}
use Rattle.clause_core.specs.Propagation.{IsTrace}
use Rattle.refutation_check.specs.declared.steps.Step.{Step}
use Rattle.refutation_check.specs.Checking.{log_refusal, HaveFewHints}
use Rattle.sat_core.specs.declared.answers.Answer.{Answer}
use Rattle.sat_core.specs.declared.answers.Answer.TheVariants.{Sat, Unsat, Spent}
use Rattle.refutation_check.specs.LogNumbers.{AreNumbered}

-- one truth for each variable, and with these each clause is met
pub record AreSatisfying (variables : ℕ) (clauses : List (List Lit)) (truths : List Bool) : Type 0 where
  pub one_each : length truths ≡ variables
  pub all_met : meets_all (assignment_of truths) clauses ≡ true

-- The steps are accepted as the log of a refutation. Their numbers are those after the clauses, one after another, and
-- each hint is at least 1 and below its step's number.
pub record AreRefuting (variables : ℕ) (clauses : List (List Lit)) (steps : List Step) : Type 0 where
  pub accepted : log_refusal variables clauses steps ≡ None
  pub few_hints : HaveFewHints steps
  pub numbered : AreNumbered (length clauses + 1) steps

-- So many clauses were learnt, which are a trace. That many there can be only below 3 to the number of variables,
-- for each variable that stands in a clause stands there with one sign, and no clause is learnt twice.
pub record IsWholeTrace (variables : ℕ) (clauses : List (List Lit)) (budget : ℕ) (trace : List (List Lit)) : Type 0 where
  pub whole_budget : length trace ≡ budget
  pub learnt : IsTrace variables clauses trace
  pub few : budget < 3 ^ variables

-- the answer is right for the clauses over the variables, where so many clauses may be learnt
abbrev pub IsRightAnswer : ℕ → List (List Lit) → ℕ → Answer → Type 0
IsRightAnswer variables clauses budget (Sat assignment) = AreSatisfying variables clauses assignment.truths
IsRightAnswer variables clauses budget (Unsat log) = AreRefuting variables clauses log.steps
IsRightAnswer variables clauses budget (Spent trace) = IsWholeTrace variables clauses budget trace
