-- Internal: only private functions of this crate use these words. The choices of sets that are made.
use Rattle.std.specs.Prelude.{◌≡◌, ℕ, List, map, length, Some, slice_get, Vec}
use Rattle.std.specs.declared.alloc.Global.{Global}
use Rattle.std.specs.List.{AllByRecursion}
use Rattle.ltl_formula.specs.LtlTree.{LtlTree}
use Rattle.obligations.specs.declared.numbered.NumberedChoice.{NumberedChoice}
use Rattle.obligations.specs.Expansion.{choices}
use Rattle.obligations.specs.Named.{formula_named, choice_named, IsWell}
use Rattle.obligations.specs.Numbers.{ChoiceKey, choice_keys}
use Rattle.cobuchi_automata.specs.declared.known.KnownChoices.{KnownChoices}
use Rattle.cobuchi_automata.specs.internal.Exploring.{StateKey, state_keys}

-- these are the choices of the set of the formulas with these numbers
pub record HasChoices (names : List LtlTree) (members : List ℕ) (cs : List ChoiceKey) : Type 0 where
  pub choices : choices (map (formula_named names) members) ≡ Some (map (choice_named names) cs)
  pub well : AllByRecursion (IsWell names) cs

-- each set has a list at its place, and its choices stand there
pub record AreListed (names : List LtlTree) (sets : List StateKey) (lists : List (Vec NumberedChoice Global)) : Type 0 where
  pub one_each : length lists ≡ length sets
  pub are : (n : ℕ) (k : StateKey) (cs : Vec NumberedChoice Global) → slice_get sets n ≡ Some k → slice_get lists n ≡ Some cs
      → HasChoices names k.members (choice_keys cs.items)

abbrev pub AreKnown : List LtlTree → KnownChoices → Type 0
AreKnown names known = AreListed names (state_keys known.sets.keys) known.lists.items

-- the choices of a set stand at a place
pub record IsListAt (names : List LtlTree) (members : List ℕ) (lists : List (Vec NumberedChoice Global)) (place : ℕ) : Type 0 where
  pub list : Vec NumberedChoice Global
  pub at : slice_get lists place ≡ Some list
  pub has : HasChoices names members (choice_keys list.items)
