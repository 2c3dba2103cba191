-- Whether a formula stands at a place.
use Rattle.std.specs.Prelude.{◌≡◌, ◌<◌, ℕ, true, false, List, length}
use Rattle.std.specs.Borrow.{Bor}
use Rattle.std.specs.List.{slice_index_or}
use Rattle.ltl_formula.specs.declared.formula.Ltl.{Ltl}
use Rattle.ltl_formula.specs.LtlTree.{LtlTree, ltl_tree}
use Rattle.obligations.specs.Expansion.{same_formula}

-- the formula at a place is this one
pub record IsAt (names : List (Bor Ltl)) (f : LtlTree) (place : ℕ) : Type 0 where
  pub within : place < length names
  pub same : (d : Bor Ltl) → same_formula (ltl_tree (slice_index_or names place d).now) f ≡ true

-- there is none at the place, or another one
abbrev pub IsNotAt : List (Bor Ltl) → LtlTree → ℕ → Type 0
IsNotAt names f place = place < length names → (d : Bor Ltl) → same_formula (ltl_tree (slice_index_or names place d).now) f ≡ false
