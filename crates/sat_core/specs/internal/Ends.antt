-- Internal: only private functions of this crate use these words. What a search answers.
use Rattle.std.specs.Prelude.{◌≡◌, ℕ, Bool, false, List}
use Rattle.clause_core.specs.Literals.{Lit}
use Rattle.sat_core.specs.declared.answers.Answer.{Answer}
use Rattle.sat_core.specs.declared.answers.Answer.TheVariants.{Sat, Unsat, Spent}
use Rattle.sat_core.specs.internal.Searches.{Task}
use Rattle.sat_core.specs.Answers.{AreSatisfying, AreRefuting, IsWholeTrace}

-- What a search answers that may leave clauses out of its trail. If it does, a spent budget says nothing.
abbrev pub IsSearchAnswer : Bool → ℕ → List (List Lit) → ℕ → Answer → Type 0
IsSearchAnswer reduces variables clauses budget (Sat assignment) = AreSatisfying variables clauses assignment.truths
IsSearchAnswer reduces variables clauses budget (Unsat log) = AreRefuting variables clauses log.steps
IsSearchAnswer reduces variables clauses budget (Spent trace) = reduces ≡ false → IsWholeTrace variables clauses budget trace

-- what a search answers to its task
abbrev pub IsAnswerTo : Task → Answer → Type 0
IsAnswerTo task = IsSearchAnswer task.reduces task.formula.variables task.formula.clauses task.budget
