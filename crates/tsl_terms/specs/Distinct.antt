-- Lists without repeats.
use Rattle.std.specs.Prelude.{Bool, not, List, [], ◌∷◌, filter}

-- a list without repeats, by a test of equality: each member stands where it stood first
abbrev pub without_repeats : {A : Type 0} → (A → A → Bool) → List A → List A
without_repeats same [] = []
without_repeats same (x ∷ xs) = x ∷ filter (λ y. not (same x y)) (without_repeats same xs)
