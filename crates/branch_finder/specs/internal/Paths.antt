-- Internal: only private functions of this crate use these words.
-- Paths of vectors and prints: the updates of cells and the equalities along them, and the states that these lead to.
use Rattle.std.specs.Prelude.{◌≡◌, ℕ, zero, suc, ◌/◌, ◌%◌, ◌≤◌, Bool, true, false, not, List, map, take, drop}
use Rattle.std.specs.Prelude.{[], ◌∷◌, ◌++◌, length, Option, Some, None, slice_get}
use Rattle.tsl_terms.specs.TermTree.{TermTree, ProbeTree}
use Rattle.tsl_terms.specs.WindowTree.{ListedTree, EquatedTree, WindowTree}
use Rattle.tsl_terms.specs.Congruence.{IsCongruent}
use Rattle.lane_planes.specs.Planes.{has_bit}
use Rattle.ltl_formula.specs.Cubes.{has_bit as has}
use Rattle.letter_space.specs.SpaceTree.{ControlledTree, SpaceTree}
use Rattle.letter_space.specs.Letters.{term_taken}
use Rattle.letter_space.specs.Vectors.{picks_of}
use Rattle.machines.specs.MachineTree.{EnvironmentTree}
use Rattle.machines.specs.Visits.{IsVisited}
use Rattle.branch_finder.specs.internal.Sets.{set_of, LeadsTo}
use Rattle.branch_finder.specs.internal.Planes.{IsTruthOf}

-- the path with a number, of so many vectors from a number of them: the digits of its number, the lowest one first
abbrev pub path_of : ℕ → ℕ → ℕ → List ℕ
path_of vectors zero number = []
path_of vectors (suc steps) number = (number % vectors) ∷ path_of vectors steps (number / vectors)

-- the update of a signal to a term that it takes at an offset, where it takes one
abbrev pub update_to : ℕ → ℕ → Option TermTree → List ListedTree
update_to offset s None = []
update_to offset s (Some term) = record { signal = s; term = term; offset = offset } ∷ []

-- the updates of cells at an offset, where so much is picked
abbrev pub updates_picked : List ControlledTree → List ℕ → ℕ → List ℕ → List ListedTree
updates_picked controlled picks offset [] = []
updates_picked controlled picks offset (s ∷ cells) =
    update_to offset s (term_taken controlled picks s) ++ updates_picked controlled picks offset cells

-- the updates of cells along a path, from an offset on
abbrev pub updates_along : List ControlledTree → List ℕ → ℕ → List ℕ → List ListedTree
updates_along controlled cells offset [] = []
updates_along controlled cells offset (v ∷ path) =
    updates_picked controlled (picks_of controlled v) offset cells ++ updates_along controlled cells (suc offset) path

-- the vector at a step of a path
abbrev pub vector_at : List ℕ → ℕ → ℕ
vector_at [] t = 0
vector_at (v ∷ path) zero = v
vector_at (v ∷ path) (suc t) = vector_at path t

-- two bits at a step and at the end of a path
pub record PairTree : Type 0 where
  pub left_at : ℕ
  pub left : ℕ
  pub right : ℕ

-- the equality of a probe at an offset, where it belongs there
abbrev pub equality_if : Bool → ℕ → ProbeTree → List EquatedTree
equality_if false offset p = []
equality_if true offset p = record { probe = p; offset = offset } ∷ []

-- the equalities of a print at an offset, of probes whose bits begin with a first one
abbrev pub equalities_in : ℕ → ℕ → ℕ → List ProbeTree → List EquatedTree
equalities_in print bit offset [] = []
equalities_in print bit offset (p ∷ ps) = equality_if (has bit print) offset p ++ equalities_in print (suc bit) offset ps

-- the equalities of prints, from an offset on
abbrev pub equalities_along : List ProbeTree → ℕ → List ℕ → List EquatedTree
equalities_along probes offset [] = []
equalities_along probes offset (print ∷ prints) = equalities_in print 0 offset probes ++ equalities_along probes (suc offset) prints

-- From a state of a plane, sets and prints from a pair's step on tell its bits apart, where the left one is as wanted in that state.
pub record TellsApart (space : SpaceTree) (e : EnvironmentTree) (mask : ℕ) (sets prints : List ℕ) (pair : PairTree) (wanted : Bool)
    (plane : List ℕ) : Type 0 where
  pub middle : ℕ
  pub set : has_bit plane middle ≡ true
  pub left : IsTruthOf e pair.left wanted middle
  pub last : ℕ
  pub after : LeadsTo space e mask (drop pair.left_at sets) (drop pair.left_at prints) middle last
  pub right : IsTruthOf e pair.right (not wanted) last

-- Sets and prints tell a pair of bits apart: from a state that is visited they lead by one at the pair's step to a last one, and of the
-- left bit in the former and the right bit in the latter one alone is true.
pub record IsToldApart (space : SpaceTree) (e : EnvironmentTree) (mask : ℕ) (sets prints : List ℕ) (pair : PairTree) : Type 0 where
  pub start : ℕ
  pub visited : IsVisited e start
  pub middle : ℕ
  pub before : LeadsTo space e mask (take pair.left_at sets) (take (suc pair.left_at) prints) start middle
  pub wanted : Bool
  pub left : IsTruthOf e pair.left wanted middle
  pub last : ℕ
  pub after : LeadsTo space e mask (drop pair.left_at sets) (drop pair.left_at prints) middle last
  pub right : IsTruthOf e pair.right (not wanted) last

-- sets and prints lead from a state that is visited to one in which a bit is false
pub record IsToldFalse (space : SpaceTree) (e : EnvironmentTree) (mask : ℕ) (sets prints : List ℕ) (right : ℕ) : Type 0 where
  pub start : ℕ
  pub visited : IsVisited e start
  pub last : ℕ
  pub leads : LeadsTo space e mask sets prints start last
  pub false_there : IsTruthOf e right false last

-- the window of a right probe, with a left one or without, along a path with all updates of cells and all equalities of the prints
abbrev pub path_window : SpaceTree → List ℕ → List ℕ → List ℕ → Option ProbeTree → ℕ → ProbeTree → WindowTree
path_window space cells path prints left left_at right = record {
  left = left;
  left_at = left_at;
  right = right;
  length = length path;
  updates = updates_along space.controlled cells 0 path;
  equalities = equalities_along space.predicates 0 prints;
}

-- A pair of bits is seen on a path: with all updates and equalities the window of its probes is congruent, and vectors with these updates
-- tell it apart by states with these prints.
pub record IsSeen (space : SpaceTree) (e : EnvironmentTree) (cells : List ℕ) (equality : Option ℕ) (mask : ℕ) (path prints : List ℕ)
    (pair : PairTree) : Type 0 where
  pub within : pair.left_at ≤ length path
  pub left : ProbeTree
  pub is_left : slice_get space.predicates pair.left ≡ Some left
  pub right : ProbeTree
  pub is_right : slice_get space.predicates pair.right ≡ Some right
  pub congruent : IsCongruent cells equality (path_window space cells path prints (Some left) pair.left_at right)
  pub told : IsToldApart space e mask (map (set_of space cells) path) prints pair

-- The same of a bit alone: the window of its probe without a left one is congruent, and the bit is false at the end.
pub record IsSeenAlone (space : SpaceTree) (e : EnvironmentTree) (cells : List ℕ) (equality : Option ℕ) (mask : ℕ) (path prints : List ℕ)
    (right : ℕ) : Type 0 where
  pub probe : ProbeTree
  pub is_probe : slice_get space.predicates right ≡ Some probe
  pub congruent : IsCongruent cells equality (path_window space cells path prints None 0 probe)
  pub told : IsToldFalse space e mask (map (set_of space cells) path) prints right
