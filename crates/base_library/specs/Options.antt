-- Options in lists, and tests of them.
use Rattle.std.specs.Prelude.{Bool, false, List, [], ◌∷◌, Option, Some, None, option_map}

-- the members where each is there
abbrev pub all_there : {X : Type 0} → List (Option X) → Option (List X)
all_there [] = Some []
all_there (None ∷ members) = None
all_there (Some x ∷ members) = option_map (λ xs. x ∷ xs) (all_there members)

-- whether there is a value, and the test holds of it
abbrev pub passes : {X : Type 0} → (X → Bool) → Option X → Bool
passes test None = false
passes test (Some x) = test x
