-- The shape of a loop: where its positions lead.
use Rattle.std.specs.Prelude.{ℕ, zero, suc, ◌+◌, ◌<◌, ◌≤◌, ◌==◌, List, [], ◌∷◌, if◌then◌else◌}

-- The positions are 0 to start + length - 1, and the last one goes on to position `start`.
pub record LoopShape : Type 0 where
  pub start : ℕ
  pub length : ℕ

-- a position of a loop with at least one position to go round
pub record IsPosition (shape : LoopShape) (i : ℕ) : Type 0 where
  pub goes_on : 1 ≤ shape.length
  pub within : i < shape.start + shape.length

-- the position after a position
abbrev pub after : LoopShape → ℕ → ℕ
after shape i = if (i + 1) == (shape.start + shape.length) then shape.start else i + 1

-- the position so many steps on
abbrev pub steps_on : LoopShape → ℕ → ℕ → ℕ
steps_on shape zero i = i
steps_on shape (suc n) i = steps_on shape n (after shape i)

-- so many positions from a position on, itself the first
abbrev pub positions_from : LoopShape → ℕ → ℕ → List ℕ
positions_from shape zero i = []
positions_from shape (suc n) i = i ∷ positions_from shape n (after shape i)

-- the positions that are reached from a position within start + length steps: all that are ever reached
abbrev pub reached : LoopShape → ℕ → List ℕ
reached shape i = positions_from shape (suc (shape.start + shape.length)) i
