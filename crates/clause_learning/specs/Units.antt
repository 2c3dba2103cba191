-- Internal to the solver: no clause of a public function of `sat_core` uses these words.
-- Clauses of one literal, for what is true at level 0.
use Rattle.std.specs.Prelude.{◌≡◌, ℕ, ◌+◌, ◌-◌, ◌<◌, ◌≤◌, ◌^◌, ◌⊎◌, List, [], ◌∷◌, ◌++◌, length, Some, None, slice_get}
use Rattle.clause_core.specs.Literals.{Lit, negation}
use Rattle.sat_trail.specs.States.{TrailState, IsSound, Propagates, with_clause}
use Rattle.refutation_check.specs.Checking.{numbered_from, refused_hint}
use Rattle.clause_learning.specs.declared.proof_log.ProofLog.{ProofLog}
use Rattle.clause_learning.specs.declared.units.Units.{Units}
use Rattle.clause_learning.specs.Hints.{AreHints}
use Rattle.clause_learning.specs.LearntClauses.{TakesStep}

-- there is a place for each variable, and clauses of the trail alone are named
pub record AreUnits (t : TrailState) (units : Units) : Type 0 where
  pub one_each : length units.numbers.items ≡ t.variables
  pub within : units.count ≤ length t.clauses

-- a hint for one of the literals of a clause that has this one: it names a clause of the opposite alone; this one gets none
abbrev pub AddsHint : List (List Lit) → Lit → Lit → List ℕ → List ℕ → Type 0
AddsHint clauses literal other old new = ((other ≡ literal) × (new ≡ old))
    ⊎ ((other ≡ literal → ⊥) × ((hint : ℕ) × (1 ≤ hint) × (slice_get clauses (hint - 1) ≡ Some (negation other ∷ [])) × (new ≡ old ++ hint ∷ [])))

-- hints that show the clause of this literal alone
pub record ShowAlone (t : TrailState) (literal : Lit) (hints : List ℕ) : Type 0 where
  pub over : literal.index < t.variables
  pub shown : refused_hint (numbered_from 1 t.clauses) (negation literal ∷ []) 1 hints ≡ None
  pub few_hints : length hints + 1 < 2 ^ 32
  pub named : AreHints (length t.clauses) hints

-- a clause of one literal is added to a trail at level 0, and the log takes its step, whose hints show it
pub record HasNoted (old : TrailState) (proof_log : ProofLog) (new : TrailState) (after : ProofLog) : Type 0 where
  pub literal : Lit
  pub hints : List ℕ
  pub alone : ShowAlone old literal hints
  pub open alone use *
  pub start : old.level ≡ 0
  pub sound : IsSound new
  pub trail_is : new ≡ with_clause old (literal ∷ [])
  pub step : TakesStep proof_log (literal ∷ []) hints after
  pub open step use *

-- so many clauses are added, one after another
pub data HaveNoted : ℕ → TrailState → ProofLog → TrailState → ProofLog → Type 0 where
  none : {t : TrailState} → {proof_log : ProofLog} → HaveNoted 0 t proof_log t proof_log
  more : {count : ℕ} → {old middle new : TrailState} → {proof_log between after : ProofLog} →
      HaveNoted count old proof_log middle between → HasNoted middle between new after → HaveNoted (count + 1) old proof_log new after

-- one clause is added, and the numbers of clauses of one literal are those of the new trail
pub record HasAdded (old : TrailState) (proof_log : ProofLog) (units : Units) (new : TrailState) (after : ProofLog) (later : Units) :
    Type 0 where
  pub noted : HasNoted old proof_log new after
  pub added : later.added ≡ units.added + 1
  pub table : AreUnits new later

-- one clause is added, or none
abbrev pub MayHaveNoted : TrailState → ProofLog → Units → TrailState → ProofLog → Units → Type 0
MayHaveNoted old proof_log units new after later = ((new ≡ old) × (after ≡ proof_log) × (later.added ≡ units.added))
    ⊎ (HasNoted old proof_log new after × (later.added ≡ units.added + 1))

-- propagation went on, and so many clauses were added on the way
pub record HasPropagated (count : ℕ) (old : TrailState) (proof_log : ProofLog) (new : TrailState) (after : ProofLog) : Type 0 where
  pub found : TrailState
  pub noted : TrailState
  pub first : Propagates old found
  pub first_sound : IsSound found
  pub clauses : HaveNoted count found proof_log noted after
  pub noted_sound : IsSound noted
  pub last : Propagates noted new
