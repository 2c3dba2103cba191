-- Internal to the solver: no clause of a public function of `sat_core` uses this word. What a search asks of its trail.
use Rattle.std.specs.Prelude.{◌≡◌, false}
use Rattle.sat_trail.specs.States.{TrailState, IsSound}

-- memory has not run out in a call, and the trail is sound
pub record IsUsable (t : TrailState) : Type 0 where
  pub usable : t.broken ≡ false
  pub sound : IsSound t
