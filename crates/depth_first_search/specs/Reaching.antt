-- What reaches what through uses.
use Rattle.std.specs.Prelude.{Bool, List, ◌∷◌, IsTrue}

module _ {A : Type 0} where
  pub data Reaches (uses : A → A → Type 0) : A → A → Type 0 where
    one : {x y : A} → uses x y → Reaches uses x y
    more : {x y z : A} → uses x y → Reaches uses y z → Reaches uses x z

  pub data Among : A → List A → Type 0 where
    first : {x : A} {xs : List A} → Among x (x ∷ xs)
    later : {x y : A} {xs : List A} → Among y xs → Among y (x ∷ xs)

  -- it uses one of these
  abbrev pub UsesOne : (A → A → Type 0) → List A → A → Type 0
  UsesOne uses xs x = (y : A) × Among y xs × uses x y

  -- what a test tells
  abbrev pub Using : (A → A → Bool) → A → A → Type 0
  Using test x y = IsTrue (test x y)
