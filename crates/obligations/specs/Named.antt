-- Numbers that stand for formulas, and choices over numbers that are those of formulas.
use Rattle.std.specs.Prelude.{ℕ, ◌<◌, List, map, length, slice_get, unwrap_or}
use Rattle.std.specs.List.{AllByRecursion}
use Rattle.std.specs.Ordering.{nat_cmp}
use Rattle.ltl_formula.specs.LtlTree.{LtlTree, top}
use Rattle.ltl_formula.specs.Increasing.{IsIncreasing}
use Rattle.ltl_formula.specs.Cubes.{IsWithin}
use Rattle.obligations.specs.Expansion.{ChoiceTree}
use Rattle.obligations.specs.Numbers.{ChoiceKey}

-- the formula with a number
abbrev pub formula_named : List LtlTree → ℕ → LtlTree
formula_named names n = unwrap_or (slice_get names n) top

-- a choice over numbers as a choice of formulas
abbrev pub choice_named : List LtlTree → ChoiceKey → ChoiceTree
choice_named names c = record {
  care = c.care;
  want = c.want;
  next_set = map (formula_named names) c.next_set;
  postponed = map (formula_named names) c.postponed;
}

-- the cube wants no bit that it does not ask for, and both sets rise and have numbers of formulas
pub record IsWell (names : List LtlTree) (c : ChoiceKey) : Type 0 where
  pub within : IsWithin c.care c.want
  pub next_rises : IsIncreasing nat_cmp c.next_set
  pub next_named : AllByRecursion (λ n. n < length names) c.next_set
  pub postponed_rises : IsIncreasing nat_cmp c.postponed
  pub postponed_named : AllByRecursion (λ n. n < length names) c.postponed
