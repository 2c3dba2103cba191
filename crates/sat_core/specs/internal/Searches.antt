-- Internal: only private functions of this crate use these words. What holds of a search between its steps.
use Rattle.std.specs.Prelude.{◌≡◌, ℕ, ◌+◌, ◌-◌, ◌<◌, ◌≤◌, ◌^◌, Bool, false, List, ◌++◌, length, None, All}
use Rattle.std.specs.List.{AllByRecursion}
use Rattle.clause_core.specs.Literals.{Lit}
use Rattle.clause_core.specs.declared.formulas.Cnf.{Cnf}
use Rattle.clause_core.specs.Clauses.{IsIncreasing, has_pair}
use Rattle.clause_core.specs.Propagation.{SomeFalse, IsQuiet, IsTrace}
use Rattle.sat_trail.specs.Entries.{literals_of}
use Rattle.sat_trail.specs.States.{TrailState, IsSound, up_to}
use Rattle.refutation_check.specs.declared.steps.Step.{Step}
use Rattle.refutation_check.specs.Checking.{numbered_from, steps_refusal, HaveFewHints}
use Rattle.clause_learning.specs.declared.proof_log.ProofLog.{ProofLog}
use Rattle.clause_learning.specs.ClauseDatabases.{numbers_of, AreLogNumbers}
use Rattle.clause_learning.specs.ConflictAnalysis.{AreNoneSeen}
use Rattle.clause_learning.specs.Decisions.{AreDecisions}
use Rattle.clause_learning.specs.LearntClauses.{clauses_of}
use Rattle.clause_learning.specs.Units.{AreUnits}
use Rattle.sat_core.specs.declared.search.Search.{Search}
use Rattle.refutation_check.specs.LogNumbers.{AreNumbered}

-- the clauses of a formula and of the steps behind them
abbrev pub known : List (List Lit) → List Step → List (List Lit)
known clauses steps = clauses ++ clauses_of steps

-- no clause is false, and where the learnt clauses are to be a trace unit propagation has nothing left to do
pub record IsCalm (reduces : Bool) (clauses : List (List Lit)) (trues : List Lit) : Type 0 where
  pub none_false : SomeFalse clauses trues → ⊥
  pub quiet : reduces ≡ false → IsQuiet clauses trues

abbrev pub AreCalmBelow : Bool → TrailState → ℕ → Type 0
AreCalmBelow reduces t n = (level : ℕ) → level < n → IsCalm reduces t.clauses (literals_of (up_to level t.entries))

-- the steps taken so far, and the trail that they lead to, with its clauses by their numbers; whether the trail may be
-- reduced, and then it lacks some of the learnt clauses
pub record IsSearch (reduces : Bool) (variables : ℕ) (clauses : List (List Lit)) (t : TrailState) (steps : List Step) (numbers : List ℕ) :
    Type 0 where
  pub usable : t.broken ≡ false
  pub sound : IsSound t
  pub same_variables : t.variables ≡ variables
  pub others : List (List Lit)
  pub stands : t.clauses ≡ clauses ++ others
  pub fewer : length t.clauses ≤ length clauses + length steps
  pub named : AreLogNumbers (known clauses steps) t.clauses numbers
  pub logged : (later : List Step) → steps_refusal variables (length (known clauses steps)) (numbered_from 1 (known clauses steps)) later
      ≡ None → steps_refusal variables (length clauses) (numbered_from 1 clauses) (steps ++ later) ≡ None
  pub few_hints : HaveFewHints steps
  pub numbered : AreNumbered (length clauses + 1) steps
  pub traced : reduces ≡ false → (t.clauses ≡ known clauses steps)
      × ((later : List (List Lit)) → IsTrace variables t.clauses later → IsTrace variables clauses (clauses_of steps ++ later))
  pub increasing : AllByRecursion IsIncreasing (clauses_of steps)
  pub calm : AreCalmBelow reduces t t.level

-- a search with its log, whose steps have the next numbers
pub record IsLogged (reduces : Bool) (variables : ℕ) (clauses : List (List Lit)) (t : TrailState) (proof_log : ProofLog) : Type 0 where
  pub search : IsSearch reduces variables clauses t proof_log.steps.items (numbers_of proof_log.database)
  pub next : proof_log.next ≡ length clauses + length proof_log.steps.items + 1

-- what a search is to do: over which formula, how many clauses it may learn, and whether its trail may be reduced
pub record Task : Type 0 where
  pub formula : Cnf
  pub budget : ℕ
  pub reduces : Bool

abbrev pub task_of : Search → Task
task_of search = record { formula = search.cnf.now; budget = search.budget; reduces = search.reduces }

-- What holds of a search between its steps. Those are the steps of learnt clauses and of clauses of one literal, and these are
-- added only where the trail may be reduced.
pub record IsSearching (search : Search) : Type 0 where
  pub no_tautology : All (λ clause. has_pair clause ≡ false) search.cnf.now.clauses
  pub logged : IsLogged search.reduces search.cnf.now.variables search.cnf.now.clauses search.trail search.proof_log
  pub order : AreDecisions search.trail.variables search.trail.entries search.decisions
  pub none_seen : AreNoneSeen search.trail.variables search.analysis.seen
  pub table : AreUnits search.trail search.units
  pub within : length search.proof_log.steps.items ≤ search.budget + search.units.added
  pub counted : search.units.added ≤ length search.proof_log.steps.items
  pub few : search.units.added ≤ search.units.most
  pub room : length search.cnf.now.clauses + search.budget + search.units.most < 2 ^ 32 - 1
  pub only : search.reduces ≡ false → search.units.most ≡ 0
  pub wanted : search.reductions.wanted ≡ search.reduces

-- how many more clauses may be learnt
abbrev pub budget_left : Search → ℕ
budget_left search = search.budget + search.units.added - length search.proof_log.steps.items

-- a search goes on with its task, and so many fewer clauses may be learnt
pub record HasSpent (count : ℕ) (old new : Search) : Type 0 where
  pub same_task : task_of new ≡ task_of old
  pub fewer : budget_left new + count ≡ budget_left old
