-- What is found: a congruent spurious window of the least length that lists no update and no equality too many, or that there is
-- none. And how many pairs of predicate terms on paths of vectors there may be.
-- Source: Finkbeiner, Klein, Piskac, Santolucito: Temporal Stream Logic: Synthesis Beyond the Bools (CAV 2019), the refinement of
-- the underapproximation. That a least one is found, and with which updates and equalities, is this project's own rule.
use Rattle.std.specs.Prelude.{◌≡◌, ℕ, suc, ◌*◌, ◌^◌, ◌<◌, ◌≤◌, true, List, ◌++◌, Option, map, take, drop, IsTrue}
use Rattle.std.specs.Prelude.{length as count_of}
use Rattle.std.specs.List.{AllByRecursion}
use Rattle.base_library.specs.Numbers.{is_among}
use Rattle.tsl_terms.specs.WindowTree.{WindowTree}
use Rattle.tsl_terms.specs.Congruence.{IsCongruent}
use Rattle.program_tree.specs.Fits.{window_is_shaped}
use Rattle.letter_space.specs.SpaceTree.{SpaceTree}
use Rattle.letter_space.specs.Vectors.{vector_count}
use Rattle.machines.specs.MachineTree.{EnvironmentTree}
use Rattle.branch_finder.specs.Spurious.{IsSpurious}

-- each of these cells is a signal of the space
abbrev pub AreControlled : SpaceTree → List ℕ → Type 0
AreControlled space cells = AllByRecursion (λ cell. is_among (map (λ c. c.signal) space.controlled) cell ≡ true) cells

-- A window is at most so long, its left probe and its equalities stand within it, and its updates are of these cells, at offsets below
-- its length.
pub record IsWindowWithin (cells : List ℕ) (depth : ℕ) (w : WindowTree) : Type 0 where
  pub short : w.length ≤ depth
  pub left_within : w.left_at ≤ w.length
  pub listed : AllByRecursion (λ u. (is_among cells u.signal ≡ true) × (u.offset < w.length)) w.updates
  pub equal : AllByRecursion (λ q. q.offset ≤ w.length) w.equalities

-- no congruent window of at most this length is spurious
abbrev pub HasNoSpuriousWindow : SpaceTree → EnvironmentTree → List ℕ → Option ℕ → ℕ → Type 0
HasNoSpuriousWindow space e cells equality depth =
    (w : WindowTree) → IsWindowWithin cells depth w → IsCongruent cells equality w → IsSpurious space e w → ⊥

-- a window without the update at a place
abbrev pub without_update : ℕ → WindowTree → WindowTree
without_update place w = record w { updates = take place w.updates ++ drop (suc place) w.updates }

-- a window without the equality at a place
abbrev pub without_equality : ℕ → WindowTree → WindowTree
without_equality place w = record w { equalities = take place w.equalities ++ drop (suc place) w.equalities }

-- A window within the depth is congruent and spurious, no shorter one is, and no update and no equality can be left out with the
-- window still congruent. It stands in the order of programs: updates by offset, and then by the cell's place; equalities by offset.
pub record IsFoundWindow (space : SpaceTree) (e : EnvironmentTree) (cells : List ℕ) (equality : Option ℕ) (depth : ℕ)
    (w : WindowTree) : Type 0 where
  pub within : IsWindowWithin cells depth w
  pub shaped : IsTrue (window_is_shaped cells w)
  pub congruent : IsCongruent cells equality w
  pub spurious : IsSpurious space e w
  pub least : (shorter : ℕ) → shorter < w.length → HasNoSpuriousWindow space e cells equality shorter
  pub needed : (place : ℕ) → place < count_of w.updates → IsCongruent cells equality (without_update place w) → ⊥
  pub needed_equalities : (place : ℕ) → place < count_of w.equalities → IsCongruent cells equality (without_equality place w) → ⊥

-- how many pairs of predicate terms there are on the paths of so many vectors
abbrev pub branch_count : SpaceTree → ℕ → ℕ
branch_count space depth = count_of space.predicates ^ 2 * vector_count space.controlled ^ depth
