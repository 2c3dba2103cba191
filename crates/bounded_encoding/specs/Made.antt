-- Clauses made so far, at most a given number of them.
use Rattle.std.specs.Prelude.{◌<◌, ℕ, List, ◌++◌, length}
use Rattle.clause_core.specs.Literals.{Lit}
use Rattle.bounded_encoding.specs.ClauseLists.{kept}

-- clauses, and how many there may be at most
pub record Made : Type 0 where
  pub clauses : List (List Lit)
  pub most : ℕ

-- the clauses of more lists of literals at the end
abbrev pub with_clauses : Made → List (List Lit) → Made
with_clauses made more = record { clauses = made.clauses ++ kept more; most = made.most }

-- there are more clauses than there may be
abbrev pub IsBeyond : Made → Type 0
IsBeyond made = made.most < length made.clauses
