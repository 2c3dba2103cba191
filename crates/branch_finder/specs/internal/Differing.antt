-- Internal: only private functions of this crate use these words.
-- In what the states that an environment visits differ, whatever leads from one to another.
use Rattle.std.specs.Prelude.{◌≡◌, ℕ, Bool, true, false, not, Some, slice_get}
use Rattle.tsl_terms.specs.TermTree.{ProbeTree}
use Rattle.ltl_formula.specs.Cubes.{has_bit}
use Rattle.letter_space.specs.SpaceTree.{SpaceTree}
use Rattle.machines.specs.MachineTree.{EnvironmentTree}
use Rattle.machines.specs.Visits.{IsVisited}
use Rattle.branch_finder.specs.internal.Planes.{IsTruthOf}

-- in some state that is visited a bit is as wanted
pub record IsEver (e : EnvironmentTree) (bit : ℕ) (wanted : Bool) : Type 0 where
  pub state : ℕ
  pub visited : IsVisited e state
  pub truth : IsTruthOf e bit wanted state

-- two bits are predicate terms with one predicate
pub record HaveOnePredicate (space : SpaceTree) (left right : ℕ) : Type 0 where
  pub left_probe : ProbeTree
  pub is_left : slice_get space.predicates left ≡ Some left_probe
  pub right_probe : ProbeTree
  pub is_right : slice_get space.predicates right ≡ Some right_probe
  pub same : left_probe.predicate ≡ right_probe.predicate

-- Two bits with one predicate differ somewhere: of the left one in a state that is visited and the right one in another one, or in the
-- same, one alone is true.
pub record DifferSomewhere (space : SpaceTree) (e : EnvironmentTree) (left right : ℕ) : Type 0 where
  pub predicate : HaveOnePredicate space left right
  pub wanted : Bool
  pub left_is : IsEver e left wanted
  pub right_is : IsEver e right (not wanted)

-- an equality, one of the bits of a mask, is false in some state that is visited
pub record IsFalseSomewhere (e : EnvironmentTree) (mask right : ℕ) : Type 0 where
  pub is_equality : has_bit right mask ≡ true
  pub ever : IsEver e right false
