-- A standing that was copied.
use Rattle.std.specs.Prelude.{◌≡◌, map}
use Rattle.table_runner.specs.declared.standing.Standing.{Standing}

pub record IsCopied {V S : Type 0} (seen : V → S) (standing copy : Standing V) : Type 0 where
  pub place : copy.place ≡ standing.place
  pub state : copy.state ≡ standing.state
  pub signals : copy.leaves.signals ≡ standing.leaves.signals
  pub values : map seen copy.leaves.values ≡ map seen standing.leaves.values
