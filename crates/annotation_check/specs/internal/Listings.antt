-- Internal: only private functions of this crate use these words.
-- Moves as a list of their letters and one of the states that they go to.
use Rattle.std.specs.Prelude.{◌≡◌, ℕ, ◌<◌, ◌≤◌, List, length, slice_get, slice_index_or, Some, Contains, ◌↔◌}
use Rattle.machines.specs.Moves.{MoveTree}

-- a list of letters and one of states have the letter and the state of a move at one place
abbrev pub IsMoveIn : List ℕ → List ℕ → MoveTree → Type 0
IsMoveIn letters next m = (i : ℕ) × (slice_get letters i ≡ Some m.letter) × (slice_get next i ≡ Some m.next)

-- they have those of all moves, and no other
abbrev pub IsMoveListing : List MoveTree → List ℕ → List ℕ → Type 0
IsMoveListing moves letters next = (m : MoveTree) → Contains moves m ↔ IsMoveIn letters next m

-- all states from a place up to a later one are the same
pub record IsRunEnd (next : List ℕ) (at end : ℕ) : Type 0 where
  pub later : at < end
  pub within : end ≤ length next
  pub same : (i : ℕ) → at ≤ i → i < end → slice_index_or next i 0 ≡ slice_index_or next at 0

-- such a place for each
pub record AreRunEnds (next ends : List ℕ) : Type 0 where
  pub many : length ends ≡ length next
  pub each : (i : ℕ) → i < length next → IsRunEnd next i (slice_index_or ends i 0)
