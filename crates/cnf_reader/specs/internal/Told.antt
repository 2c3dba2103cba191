-- Internal: what numbers tell so far. Only private functions of this crate use these words.
use Rattle.std.specs.Prelude.{ℕ, ◌≤◌, cond, ℤ, List, [], ◌∷◌, ◌++◌}
use Rattle.clause_core.specs.Literals.{Lit, literal_of}
use Rattle.clause_core.specs.Clauses.{in_order}
use Rattle.refutation_check.specs.Numbers.{is_zero}
use Rattle.refutation_check.specs.declared.limits.TheConstants.{MOST_VARIABLES, MOST_CLAUSES}
use Rattle.cnf_reader.specs.declared.told.Counts.{Counts}

-- the counts of the header, how many clauses were ended, these clauses, and the literals after them
pub record Tells : Type 0 where
  pub counts : Counts
  pub ended : ℕ
  pub clauses : List (List Lit)
  pub literals : List Lit

-- where no number was read
abbrev pub fresh : Counts → Tells
fresh counts = record { counts = counts; ended = 0; clauses = []; literals = [] }

-- the counts of a header are within the limits
abbrev pub AreWithinLimits : Counts → Type 0
AreWithinLimits counts = (counts.variables ≤ MOST_VARIABLES) × (counts.clauses ≤ MOST_CLAUSES)

-- the clauses that zeros end, where the first has these literals already
abbrev pub ended_clauses : List Lit → List ℤ → List (List Lit)
ended_clauses literals [] = []
ended_clauses literals (n ∷ ns) =
    cond (is_zero n) (in_order literals ∷ ended_clauses [] ns) (ended_clauses (literals ++ literal_of n ∷ []) ns)
