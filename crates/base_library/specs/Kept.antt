-- Lists that grow by what did not stand in them before.
use Rattle.std.specs.Prelude.{Bool, List, [], ◌∷◌, ◌++◌, if◌then◌else◌}
use Rattle.std.specs.List.{list_any}

module _ {A : Type 0} (same : A → A → Bool) where
  -- whether a member of a list is the same
  abbrev pub is_kept : List A → A → Bool
  is_kept kept x = list_any (λ k. same k x) kept

  -- a list, and then the members of another, each where it did not stand before
  abbrev pub with_new : List A → List A → List A
  with_new kept [] = kept
  with_new kept (x ∷ xs) = with_new (if is_kept kept x then kept else kept ++ x ∷ []) xs
