-- Internal: only private functions of this crate use these words.
-- Marks at the places of a list that pass a test.
use Rattle.std.specs.Prelude.{ℕ, suc, Bool, ◌||◌, List, [], ◌∷◌}

-- the marks that stood, and those at the places that pass
abbrev pub marked : (ℕ → Bool) → List Bool → List Bool
marked passes [] = []
marked passes (mark ∷ marks) = (mark || passes 0) ∷ marked (λ place. passes (suc place)) marks
