-- Internal: only private functions of this crate use these words.
-- Planes of states, and for each state the plane of those that it goes to.
use Rattle.std.specs.Prelude.{◌≡◌, ℕ, ◌+◌, ◌/◌, ◌<◌, ◌↔◌, Bool, true, List, Some, slice_get}
use Rattle.std.specs.Prelude.{length as count_of}
use Rattle.lane_planes.specs.Planes.{has_bit}
use Rattle.ltl_formula.specs.Cubes.{has_bit as has}
use Rattle.letter_space.specs.SpaceTree.{SpaceTree}
use Rattle.machines.specs.MachineTree.{EnvironmentTree, successor_at}
use Rattle.branch_finder.specs.internal.Prints.{HasPrint}
use Rattle.branch_finder.specs.internal.Sets.{GoesBy, LeadsTo}

-- how many words a plane of so many bits has
abbrev pub words_of : ℕ → ℕ
words_of n = (n + 63) / 64

-- A plane of so many bits tells of which numbers something holds. Bits past the last one mean nothing.
pub record IsPlaneOf (n : ℕ) (P : ℕ → Type 0) (plane : List ℕ) : Type 0 where
  pub size : count_of plane ≡ words_of n
  pub tells : (i : ℕ) → i < n → (has_bit plane i ≡ true) ↔ P i

-- a number is one of the first so many of a list
pub record IsListed (ns : List ℕ) (count n : ℕ) : Type 0 where
  pub place : ℕ
  pub below : place < count
  pub at : slice_get ns place ≡ Some n

-- a state goes to another one under one of the first so many of some vectors
pub record GoesUnder (e : EnvironmentTree) (vectors : List ℕ) (s count t : ℕ) : Type 0 where
  pub vector : ℕ
  pub listed : IsListed vectors count vector
  pub goes : successor_at e s vector ≡ Some t

-- a row for each state: the states that it goes to under vectors with all updates of a set
pub record AreLinks (space : SpaceTree) (e : EnvironmentTree) (set : ℕ) (rows : List (List ℕ)) : Type 0 where
  pub one_each : count_of rows ≡ e.states
  pub each : (s : ℕ) (row : List ℕ) → slice_get rows s ≡ Some row → IsPlaneOf e.states (GoesBy space e set s) row

-- such rows for each of these sets
pub record AreLinksOf (space : SpaceTree) (e : EnvironmentTree) (sets : List ℕ) (links : List (List (List ℕ))) : Type 0 where
  pub one_each : count_of links ≡ count_of sets
  pub each : (n set : ℕ) (rows : List (List ℕ)) → slice_get sets n ≡ Some set → slice_get links n ≡ Some rows → AreLinks space e set rows

-- a state of a plane, one of the first so many, goes to another one under some vector that has all updates of a set
pub record GoesFrom (space : SpaceTree) (e : EnvironmentTree) (updates : ℕ) (plane : List ℕ) (count t : ℕ) : Type 0 where
  pub state : ℕ
  pub below : state < count
  pub set : has_bit plane state ≡ true
  pub goes : GoesBy space e updates state t

-- a state of a plane leads to another one along sets, by states with these prints
pub record ComesFrom (space : SpaceTree) (e : EnvironmentTree) (mask : ℕ) (sets prints plane : List ℕ) (t : ℕ) : Type 0 where
  pub state : ℕ
  pub below : state < e.states
  pub set : has_bit plane state ≡ true
  pub leads : LeadsTo space e mask sets prints state t

-- in a state a bit of what is true is as wanted
pub record IsTruthOf (e : EnvironmentTree) (bit : ℕ) (wanted : Bool) (s : ℕ) : Type 0 where
  pub truths : ℕ
  pub at : slice_get e.truths s ≡ Some truths
  pub is : has bit truths ≡ wanted

-- a state, one of the first so many, is one of a plane and has a print
pub record IsKept (e : EnvironmentTree) (plane : List ℕ) (mask print count s : ℕ) : Type 0 where
  pub below : s < count
  pub set : has_bit plane s ≡ true
  pub truth : HasPrint e mask print s
