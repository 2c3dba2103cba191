-- Rounds of a search that takes a window from each environment that it meets.
-- Source: Finkbeiner, Klein, Piskac, Santolucito: Temporal Stream Logic: Synthesis Beyond the Bools (CAV 2019), refinement.
use Rattle.std.specs.Prelude.{List, map}
use Rattle.tsl_terms.specs.WindowTree.{WindowTree}
use Rattle.machines.specs.MachineTree.{EnvironmentTree}

-- an environment, and the window that is assumed after it
pub record RoundTree : Type 0 where
  pub environment : EnvironmentTree
  pub window : WindowTree

-- the windows of rounds, in order
abbrev pub windows_of : List RoundTree → List WindowTree
windows_of rounds = map (λ r. r.window) rounds
