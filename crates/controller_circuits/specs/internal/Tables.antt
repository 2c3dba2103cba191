-- Literals for the places of tables.
use Rattle.std.specs.Prelude.{◌≡◌, ℕ, ◌+◌, ◌-◌, ◌*◌, ◌/◌, ◌%◌, ◌<◌, ◌≤◌, ◌^◌, Bool, List, length, Option, Some, slice_get, get_or, nat_lt}
use Rattle.std.specs.Prelude.{if◌then◌else◌}
use Rattle.ltl_formula.specs.Cubes.{has_bit}
use Rattle.machines.specs.MachineTree.{EntryTree, ControllerTree, controller_entry}
use Rattle.circuits.specs.Circuits.{AreLiterals}
use Rattle.controller_circuits.specs.Bits.{binary_digits}
use Rattle.controller_circuits.specs.OfController.{constant_literal}
use Rattle.controller_circuits.specs.internal.Gates.{GatesTree, variables_so_far, value, Becomes}

-- every member of a list is this one
abbrev pub AreAll : {X : Type 0} → X → List X → Type 0
AreAll x xs = (i : ℕ) (y : _) → slice_get xs i ≡ Some y → y ≡ x

-- literals that choose between neighbours of a list, the second where a test is true
pub record AreChosen (old new : GatesTree) (test : ℕ) (literals chosen : List ℕ) : Type 0 where
  pub becomes : Becomes old new
  pub few : length new.gates ≤ length old.gates + 3 * length chosen
  pub are_literals : AreLiterals (variables_so_far new) chosen
  pub means : (j l : ℕ) → slice_get chosen j ≡ Some l → (bits : List Bool) → length bits ≡ old.before → value new bits l
      ≡ (if value old bits test then value old bits (get_or literals (2 * j + 1) 0) else value old bits (get_or literals (2 * j) 0))
  pub same : (x : ℕ) → AreAll x literals → AreAll x chosen

-- Literals of the places of a table whose first variables have been tested: one for all places that differ in these alone.
pub record AreTested (old new : GatesTree) (table : List ℕ) (tested : ℕ) (literals : List ℕ) : Type 0 where
  pub within : tested ≤ old.before
  pub becomes : Becomes old new
  pub count : length literals ≡ 2 ^ (old.before - tested)
  pub few : length new.gates + 3 * length literals ≤ length old.gates + 3 * 2 ^ old.before
  pub are_literals : AreLiterals (variables_so_far new) literals
  pub means : (i : ℕ) → i < 2 ^ old.before
      → value new (binary_digits old.before i) (get_or literals (i / 2 ^ tested) 0) ≡ value old (binary_digits old.before i)
      (get_or table i 0)
  pub same : (x : ℕ) → AreAll x table → AreAll x literals

-- literals of the bits of words from a first one on, by the places of the words
pub record AreOfWords (old new : GatesTree) (words : List ℕ) (first count : ℕ) (literals : List ℕ) : Type 0 where
  pub becomes : Becomes old new
  pub few : length new.gates ≤ length old.gates + count * (3 * 2 ^ old.before)
  pub counted : length literals ≡ count
  pub are_literals : AreLiterals (variables_so_far new) literals
  pub means : (k l : ℕ) → slice_get literals k ≡ Some l → (i w : ℕ) → slice_get words i ≡ Some w
      → value new (binary_digits old.before i) l ≡ has_bit (first + k) w
  pub same : (k l : ℕ) → slice_get literals k ≡ Some l → (b : Bool)
      → ((i w : ℕ) → slice_get words i ≡ Some w → has_bit (first + k) w ≡ b) → l ≡ constant_literal b

-- the entry of a place among the entries of all states and valuations, where states that do not exist have those of state 0
abbrev pub padded_state : ControllerTree → ℕ → ℕ
padded_state m place = if nat_lt (place / m.valuations) m.states then place / m.valuations else 0

abbrev pub padded_entry : ControllerTree → ℕ → Option EntryTree
padded_entry m place = controller_entry m (padded_state m place) (place % m.valuations)
