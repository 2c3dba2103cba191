-- States of an environment that it may be in.
use Rattle.std.specs.Prelude.{◌≡◌, ℕ, Some}
use Rattle.machines.specs.MachineTree.{EnvironmentTree, successor_at}

-- a state that an environment is in at first, or after one that it may be in under some vector
pub data IsVisited (e : EnvironmentTree) : ℕ → Type 0 where
  at_start : IsVisited e 0
  by_vector : (s u t : ℕ) → IsVisited e s → successor_at e s u ≡ Some t → IsVisited e t
