-- Internal: only private functions of this crate use these words. The states that are found while an environment's are visited.
use Rattle.std.specs.Prelude.{◌≡◌, ℕ, ◌<◌, ◌≤◌, List, length, Some, slice_get, nat_eq, ◌⊎◌}
use Rattle.std.specs.List.{IsDistinct}
use Rattle.machines.specs.MachineTree.{EnvironmentTree, successor_at}
use Rattle.machines.specs.Visits.{IsVisited}

-- The states that are found, where those before a place are expanded, and the one at the place under the vectors below a number: each
-- is visited and stands once, and those that they go to are found.
pub record AreFoundUpTo (e : EnvironmentTree) (place vectors : ℕ) (found : List ℕ) : Type 0 where
  pub start : slice_get found 0 ≡ Some 0
  pub once : IsDistinct nat_eq found
  pub each : (i s : ℕ) → slice_get found i ≡ Some s → IsVisited e s
  pub closed : (i s v t : ℕ) → (i < place) ⊎ ((i ≡ place) × (v < vectors)) → slice_get found i ≡ Some s → successor_at e s v ≡ Some t →
      (j : ℕ) × (slice_get found j ≡ Some t)
  pub within : place ≤ length found

-- these are the states that an environment visits
pub record AreVisited (e : EnvironmentTree) (states : List ℕ) : Type 0 where
  pub each : (i s : ℕ) → slice_get states i ≡ Some s → IsVisited e s
  pub all : (s : ℕ) → IsVisited e s → (i : ℕ) × (slice_get states i ≡ Some s)
