-- What is there where adding clauses was cut off.
use Rattle.std.specs.Prelude.{◌≡◌, List, ◌++◌}
use Rattle.clause_core.specs.Literals.{Lit}
use Rattle.bounded_encoding.specs.Made.{Made, with_clauses}

-- what was there before, with the clauses of the first of the lists that were to be added
abbrev pub IsBegun : Made → List (List Lit) → Made → Type 0
IsBegun before more after = (first rest : List (List Lit)) × (more ≡ first ++ rest) × (after ≡ with_clauses before first)
