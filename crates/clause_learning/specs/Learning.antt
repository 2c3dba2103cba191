-- Internal to the solver: no clause of a public function of `sat_core` uses these words.
-- What holds where a search learns from a conflict, and where it gives clauses of one literal to a trail.
use Rattle.std.specs.Prelude.{◌≡◌, ℕ, ◌+◌, ◌-◌, ◌<◌, ◌≤◌, ◌^◌, false, length}
use Rattle.sat_trail.specs.States.{TrailState, IsSound, IsFalseAt}
use Rattle.clause_learning.specs.declared.proof_log.ProofLog.{ProofLog}
use Rattle.clause_learning.specs.declared.units.Units.{Units}
use Rattle.clause_learning.specs.declared.choices.Decisions.{Decisions}
use Rattle.clause_learning.specs.declared.seen.Seen.{Seen}
use Rattle.clause_learning.specs.Levels.{AreNoneFalseBelow}
use Rattle.clause_learning.specs.ClauseDatabases.{numbers_of}
use Rattle.clause_learning.specs.ConflictAnalysis.{AreNoneSeen}
use Rattle.clause_learning.specs.Decisions.{AreDecisions}
use Rattle.clause_learning.specs.Units.{AreUnits}

-- conflicts on the trail can be analysed, and the log takes one more step
pub record CanLearn (t : TrailState) (proof_log : ProofLog) (units : Units) (seen : Seen) : Type 0 where
  pub usable : t.broken ≡ false
  pub sound : IsSound t
  pub none_seen : AreNoneSeen t.variables seen
  pub table : AreUnits t units
  pub next : proof_log.next + 1 < 2 ^ 64
  pub numbers : length (numbers_of proof_log.database) ≡ length t.clauses

-- the clause of this number is false above level 0, and no clause is at lower levels
pub record IsConflict (t : TrailState) (conflict : ℕ) : Type 0 where
  pub here : IsFalseAt t conflict
  pub met : AreNoneFalseBelow t t.level
  pub above : 0 < t.level

-- the tables of a search are those of its trail
pub record AreTables (t : TrailState) (units : Units) (seen : Seen) (decisions : Decisions) : Type 0 where
  pub sound : IsSound t
  pub none_seen : AreNoneSeen t.variables seen
  pub table : AreUnits t units
  pub order : AreDecisions t.variables t.entries decisions

-- clauses of one literal can be added to the trail at level 0, as many as are left, with steps of the log
pub record CanNote (t : TrailState) (proof_log : ProofLog) (units : Units) : Type 0 where
  pub usable : t.broken ≡ false
  pub sound : IsSound t
  pub start : t.level ≡ 0
  pub table : AreUnits t units
  pub added : units.added ≤ units.most
  pub few : length t.clauses + (units.most - units.added) + 1 < 2 ^ 32
  pub next : proof_log.next + (units.most - units.added) + 1 < 2 ^ 64
  pub numbers : length (numbers_of proof_log.database) ≡ length t.clauses
