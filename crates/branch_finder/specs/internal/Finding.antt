-- Internal: only private functions of this crate use these words.
-- Windows of one length, along one path, and by states with prints.
use Rattle.std.specs.Prelude.{◌≡◌, ℕ, ◌<◌, List, Option, Some, slice_get, IsTrue}
use Rattle.std.specs.Prelude.{length as count_of}
use Rattle.tsl_terms.specs.WindowTree.{WindowTree}
use Rattle.tsl_terms.specs.Congruence.{IsCongruent}
use Rattle.program_tree.specs.Fits.{window_is_shaped}
use Rattle.letter_space.specs.SpaceTree.{SpaceTree}
use Rattle.letter_space.specs.Vectors.{vector_count}
use Rattle.machines.specs.MachineTree.{EnvironmentTree}
use Rattle.branch_finder.specs.Spurious.{IsSpurious}
use Rattle.branch_finder.specs.internal.Prints.{HasPrint}
use Rattle.branch_finder.specs.internal.Sets.{set_of, HasAll}
use Rattle.branch_finder.specs.Finding.{IsWindowWithin, without_update, without_equality}

-- a congruent spurious window of a length, from which no update and no equality can be left out
pub record IsFoundOf (space : SpaceTree) (e : EnvironmentTree) (cells : List ℕ) (equality : Option ℕ) (length : ℕ)
    (w : WindowTree) : Type 0 where
  pub long : w.length ≡ length
  pub within : IsWindowWithin cells length w
  pub shaped : IsTrue (window_is_shaped cells w)
  pub congruent : IsCongruent cells equality w
  pub spurious : IsSpurious space e w
  pub needed : (place : ℕ) → place < count_of w.updates → IsCongruent cells equality (without_update place w) → ⊥
  pub needed_equalities : (place : ℕ) → place < count_of w.equalities → IsCongruent cells equality (without_equality place w) → ⊥

-- no congruent window of this length is spurious
abbrev pub HasNoneOf : SpaceTree → EnvironmentTree → List ℕ → Option ℕ → ℕ → Type 0
HasNoneOf space e cells equality length =
    (w : WindowTree) → w.length ≡ length → IsWindowWithin cells length w → IsCongruent cells equality w → IsSpurious space e w → ⊥

-- the vectors have the updates of cells of those of a path
abbrev pub AreAlong : SpaceTree → List ℕ → List ℕ → (ℕ → ℕ) → Type 0
AreAlong space cells path vector = (t v : ℕ) → slice_get path t ≡ Some v
    → (vector t < vector_count space.controlled) × HasAll space (set_of space cells v) (vector t)

-- the first states have these prints
abbrev pub HavePrints : EnvironmentTree → ℕ → List ℕ → (ℕ → ℕ) → Type 0
HavePrints e mask prints state = (t print : ℕ) → slice_get prints t ≡ Some print → HasPrint e mask print (state t)

-- no congruent window is spurious by vectors that have the updates of cells of those of a path
abbrev pub HasNoneOn : SpaceTree → EnvironmentTree → List ℕ → Option ℕ → List ℕ → Type 0
HasNoneOn space e cells equality path = (w : WindowTree) → w.length ≡ count_of path → IsWindowWithin cells (count_of path) w
    → IsCongruent cells equality w → (spurious : IsSpurious space e w) → AreAlong space cells path spurious.vector → ⊥

-- and none by such vectors and by states of which the first ones have these prints
abbrev pub HasNoneBy : SpaceTree → EnvironmentTree → List ℕ → Option ℕ → ℕ → List ℕ → List ℕ → Type 0
HasNoneBy space e cells equality mask path prints = (w : WindowTree) → w.length ≡ count_of path → IsWindowWithin cells (count_of path) w
    → IsCongruent cells equality w → (spurious : IsSpurious space e w) → AreAlong space cells path spurious.vector
    → HavePrints e mask prints spurious.state → ⊥
