-- What every run that is handed out keeps.
use Rattle.std.specs.Prelude.{◌≡◌, ℕ, List, length, Some, slice_get}
use Rattle.tsl_meaning.specs.declared.run.Position.{Position}

-- each position has one value for each input and each cell, and one term for each cell and output
abbrev pub PositionsFit : {V : Type 0} → ℕ → ℕ → ℕ → List (Position V) → Type 0
PositionsFit {V} inputs cells slots positions = (i : ℕ) (p : Position V) → slice_get positions i ≡ Some p →
    (length p.row ≡ inputs) × (length p.cells ≡ cells) × (length p.updates ≡ slots)
