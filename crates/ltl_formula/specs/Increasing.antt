-- Sets as lists that rise strictly in an order.
use Rattle.std.specs.Prelude.{List, [], ◌∷◌, ◌≡◌, ⊤}
use Rattle.std.specs.List.{AllByRecursion}
use Rattle.std.specs.declared.cmp.Ordering.{Ordering}
use Rattle.std.specs.declared.cmp.Ordering.TheVariants.{Less}
use Rattle.std.specs.Ordering.{match_ordering}

module _ {A : Type 0} (cmp : A → A → Ordering) where
  -- each member is below those after it
  abbrev pub IsIncreasing : List A → Type 0
  IsIncreasing [] = ⊤
  IsIncreasing (x ∷ xs) = AllByRecursion (λ y. cmp x y ≡ Less) xs × IsIncreasing xs

  -- an increasing list with one more member, at its place; the same list if the member is in it
  abbrev pub with_member : A → List A → List A
  with_member x [] = x ∷ []
  with_member x (y ∷ ys) = match_ordering (cmp x y) (x ∷ (y ∷ ys)) (y ∷ ys) (y ∷ with_member x ys)

  -- the members of both lists, in order
  abbrev pub union : List A → List A → List A
  union xs [] = xs
  union xs (y ∷ ys) = union (with_member y xs) ys
