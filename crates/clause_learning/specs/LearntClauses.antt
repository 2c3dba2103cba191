-- Internal to the solver: no clause of a public function of `sat_core` uses these words.
-- What is learnt from a conflict. The terms are those of N. Eén and N. Sörensson, An Extensible SAT-solver,
-- 2003; hints are those of a log.
use Rattle.std.specs.Prelude.{◌≡◌, ℕ, ◌+◌, ◌-◌, ◌^◌, ◌<◌, ◌≤◌, ◌&&◌, nat_lt, Bool, true, cond, List, [], ◌∷◌, ◌++◌, map, length, None}
use Rattle.clause_learning.specs.Hints.{AreHints}
use Rattle.clause_core.specs.Literals.{Lit, negation, has}
use Rattle.clause_core.specs.Clauses.{IsIncreasing}
use Rattle.sat_trail.specs.Entries.{literals_of}
use Rattle.sat_trail.specs.States.{TrailState, with_clause, undone}
use Rattle.refutation_check.specs.declared.steps.Step.{Step}
use Rattle.refutation_check.specs.declared.steps.Log.{Log}
use Rattle.refutation_check.specs.Checking.{numbered_from, refused_hint}
use Rattle.clause_learning.specs.declared.proof_log.ProofLog.{ProofLog}
use Rattle.clause_learning.specs.Levels.{IsSetAt}
use Rattle.clause_learning.specs.ClauseDatabases.{numbers_of, log_hints}

-- One literal of the clause is false at the present level. The others are false at lower levels, the largest of
-- which is the level to go back to; that is 0 where there are no others.
pub record IsAsserting (t : TrailState) (clause : List Lit) (back : ℕ) : Type 0 where
  pub asserted : Lit
  pub member : has clause asserted ≡ true
  pub last : IsSetAt t.entries (negation asserted) t.level
  pub others : (l : Lit) → has clause l ≡ true → (l ≡ asserted → ⊥) → (level : ℕ) × (level ≤ back) × IsSetAt t.entries (negation l) level
  pub below : back < t.level
  pub reached : 0 < back → (l : Lit) × (has clause l ≡ true) × IsSetAt t.entries (negation l) back

-- A clause whose literals are false on the trail, and hints that show it. At level 0 it is the empty clause.
pub record IsLearntClause (t : TrailState) (clause : List Lit) (hints : List ℕ) (back : ℕ) : Type 0 where
  pub increasing : IsIncreasing clause
  pub is_false : (l : Lit) → has clause l ≡ true → has (literals_of t.entries) (negation l) ≡ true
  pub shown : refused_hint (numbered_from 1 t.clauses) (map negation clause) 1 hints ≡ None
  pub few_hints : length hints + 1 < 2 ^ 32
  pub named : AreHints (length t.clauses) hints
  pub empty_at_start : t.level ≡ 0 → clause ≡ []
  pub asserting : 0 < t.level → IsAsserting t clause back

-- a step of a log
abbrev pub learnt_step : ℕ → List Lit → List ℕ → Step
learnt_step number clause hints = record { number = number; clause = clause; hints = hints }

-- The log takes a step, which stands behind the others, with the next number: the clause, by hints that name clauses on the trail,
-- to which it is about to be added.
pub record TakesStep (proof_log : ProofLog) (clause : List Lit) (hints : List ℕ) (after : ProofLog) : Type 0 where
  pub steps_are : after.steps.items
      ≡ proof_log.steps.items ++ learnt_step proof_log.next clause (log_hints (numbers_of proof_log.database) hints) ∷ []
  pub next_is : after.next ≡ proof_log.next + 1
  pub numbers_are : numbers_of after.database ≡ numbers_of proof_log.database ++ proof_log.next ∷ []

-- the clauses of steps
abbrev pub clauses_of : List Step → List (List Lit)
clauses_of steps = map (λ step. step.clause) steps

-- The level to go on from: 0 where the search begins anew, else the level to go back to. Where the search may step back, and
-- that level is more than twenty below the one before the present one, it is that one.
abbrev pub level_after : Bool → Bool → ℕ → ℕ → ℕ
level_after anew steps back level = cond anew 0 (cond (steps && nat_lt 20 (level - 1 - back)) (level - 1) back)

-- a clause is learnt: the trail goes back, and takes the clause, and the log takes its step
pub record HasLearnt (anew steps : Bool) (old : TrailState) (proof_log : ProofLog) (new : TrailState) (after : ProofLog) : Type 0 where
  pub clause : List Lit
  pub hints : List ℕ
  pub back : ℕ
  pub learnt_clause : IsLearntClause old clause hints back
  pub trail_is : new ≡ with_clause (undone old (level_after anew steps back old.level)) clause
  pub step : TakesStep proof_log clause hints after
  pub open step use *

-- a log of the steps and of one more with the empty clause, which hints show behind these clauses
pub record IsRefutingLog (clauses : List (List Lit)) (proof_log : ProofLog) (log : Log) : Type 0 where
  pub hints : List ℕ
  pub shown : refused_hint (numbered_from 1 clauses) [] 1 hints ≡ None
  pub few_hints : length hints + 1 < 2 ^ 32
  pub named : AreHints (length clauses) hints
  pub steps_are : log.steps ≡ proof_log.steps.items ++ learnt_step proof_log.next [] (log_hints (numbers_of proof_log.database) hints) ∷ []
