-- Lists of clauses, each clause being a list of literals in any order.
use Rattle.std.specs.Prelude.{ℕ, ◌-◌, not, List, map, filter}
use Rattle.std.specs.List.{flat_map, range_with_len}
use Rattle.clause_core.specs.Literals.{Lit}
use Rattle.clause_core.specs.Clauses.{in_order, has_pair}

-- the clauses of lists of literals, without those that have a literal and its negation
abbrev pub kept : List (List Lit) → List (List Lit)
kept clauses = filter (λ clause. not (has_pair clause)) (map in_order clauses)

-- the numbers from a to below b
abbrev pub between : ℕ → ℕ → List ℕ
between a b = range_with_len a (b - a)

-- the numbers below n
abbrev pub below : ℕ → List ℕ
below n = range_with_len 0 n

-- the clauses of each number from a to below b
abbrev pub each : ℕ → ℕ → (ℕ → List (List Lit)) → List (List Lit)
each a b f = flat_map f (between a b)
