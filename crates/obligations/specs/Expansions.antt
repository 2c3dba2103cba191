-- Expansions over numbers as far as they are made.
use Rattle.std.specs.Prelude.{◌≡◌, ℕ, List, length, Option, Some, slice_get, Vec}
use Rattle.std.specs.declared.alloc.Global.{Global}
use Rattle.ltl_formula.specs.LtlTree.{LtlTree}
use Rattle.obligations.specs.declared.numbered.NumberedChoice.{NumberedChoice}
use Rattle.obligations.specs.Numbers.{choice_keys, numbered_expansion}
use Rattle.obligations.specs.Named.{formula_named}

-- one place for each formula, and what stands there is the formula's expansion
pub record AreExpansions (names : List LtlTree) (lists : List (Option (Vec NumberedChoice Global))) : Type 0 where
  pub one_each : length lists ≡ length names
  pub are : (n : ℕ) (cs : Vec NumberedChoice Global) → slice_get lists n ≡ Some (Some cs)
      → numbered_expansion names (formula_named names n) ≡ Some (choice_keys cs.items)
