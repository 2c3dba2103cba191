-- The names among terminals, and how deep declarations nest.
use Rattle.std.specs.Prelude.{ℕ, ◌<◌, List, [], ◌∷◌}
use Rattle.std.specs.List.{AllByRecursion}
use Rattle.spec_syntax.specs.Syntax.{Terminal, free, word, mark, Declaration, the_section, the_definition}
use Rattle.spec_syntax.specs.Levels.{depth}

-- the names that are no reserved words, in order
abbrev pub free_names : List Terminal → List (List ℕ)
free_names [] = []
free_names (free x ∷ rest) = x ∷ free_names rest
free_names (word w ∷ rest) = free_names rest
free_names (mark m ∷ rest) = free_names rest

-- each formula needs fewer levels
abbrev pub IsBelowDepth : ℕ → Declaration → Type 0
IsBelowDepth most (the_section s) = AllByRecursion (λ f. depth f < most) s.formulas
IsBelowDepth most (the_definition d) = depth d.body < most
