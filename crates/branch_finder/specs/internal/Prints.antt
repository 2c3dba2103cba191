-- Internal: only private functions of this crate use these words.
-- Prints: what of the equalities is true in a state, as a number whose bits are those of predicate terms.
use Rattle.std.specs.Prelude.{◌≡◌, ℕ, true, List, Option, Some, slice_get, bit_and}
use Rattle.std.specs.List.{AllByRecursion}
use Rattle.tsl_terms.specs.TermTree.{ProbeTree}
use Rattle.tsl_terms.specs.Congruence.{IsEquality}
use Rattle.ltl_formula.specs.Cubes.{has_bit}
use Rattle.letter_space.specs.SpaceTree.{SpaceTree}
use Rattle.machines.specs.MachineTree.{EnvironmentTree}

-- the bits of a mask are those of the predicate terms that are equalities
pub record AreEqualityBits (space : SpaceTree) (equality : Option ℕ) (mask : ℕ) : Type 0 where
  pub each : (bit : ℕ) → has_bit bit mask ≡ true → (p : ProbeTree) × (slice_get space.predicates bit ≡ Some p) × IsEquality equality p
  pub all : (bit : ℕ) (p : ProbeTree) → slice_get space.predicates bit ≡ Some p → IsEquality equality p → has_bit bit mask ≡ true

-- in a state, the bits of a mask that are true are these
pub record HasPrint (e : EnvironmentTree) (mask print state : ℕ) : Type 0 where
  pub truths : ℕ
  pub at : slice_get e.truths state ≡ Some truths
  pub is : bit_and truths mask ≡ print

-- each print has bits of a mask alone
abbrev pub ArePrintsWithin : ℕ → List ℕ → Type 0
ArePrintsWithin mask prints = AllByRecursion (λ print. (bit : ℕ) → has_bit bit print ≡ true → has_bit bit mask ≡ true) prints

-- these are the prints of an environment's states
pub record ArePrints (e : EnvironmentTree) (mask : ℕ) (prints : List ℕ) : Type 0 where
  pub within : ArePrintsWithin mask prints
  pub all : (state truths : ℕ) → slice_get e.truths state ≡ Some truths → (i : ℕ) × (slice_get prints i ≡ Some (bit_and truths mask))
