-- Internal: only private functions of this crate use these words.
-- The values of a run by its positions and by its signals.
use Rattle.std.specs.Prelude.{◌≡◌, ℕ, List, Option, Some, map}
use Rattle.std.specs.List.{AllByRecursion}
use Rattle.interp_core.specs.declared.leaves.Leaves.{Leaves}
use Rattle.interp_core.specs.LeafValue.{leaf_value}
use Rattle.tsl_meaning.specs.declared.columns.Column.{Column}
use Rattle.tsl_meaning.specs.declared.columns.RunValues.{RunValues}

module _ {V S : Type 0} (seen : V → S) where
  -- values, one for each of the leaves, are those of a signal
  abbrev pub AreOf : List (Leaves V) → ℕ → List V → Type 0
  AreOf leaves s values = map (λ v. Some (seen v)) values ≡ map (λ l. leaf_value seen l s) leaves

  -- each column has the values of its signal
  abbrev pub HaveColumns : List (Leaves V) → List (Column V) → Type 0
  HaveColumns leaves columns = AllByRecursion (λ c. AreOf leaves c.signal c.values.items) columns

  -- the values of the signals at each position, and columns of them
  pub record HaveValues (ats : List (ℕ → Option S)) (values : RunValues V) : Type 0 where
    pub leaves : map (leaf_value seen) values.leaves.items ≡ ats
    pub columns : HaveColumns values.leaves.items values.columns.items
