-- When a reader reads exactly a grammar. A grammar tells from which lists of terminals a value derives, with levels left for so
-- many levels below.
use Rattle.std.specs.Prelude.{◌≡◌, ℕ, suc, ◌<◌, List, [], ◌∷◌, ◌++◌, Ok, Err}
use Rattle.reader_combinators.specs.Readers.{form, deep, Answer, Reader, form_at, deep_at}

-- which values derive from which terminals, with these levels left
abbrev pub Grammar : Type 0 → Type 0 → Type 1
Grammar T V = ℕ → List T → V → Type 0

module _ {T : Type 0} where
  -- both lists are empty, or they have the same first terminal
  pub data SameFirst : List T → List T → Type 0 where
    both_end : SameFirst [] []
    both_begin : (x : T) (xs ys : List T) → SameFirst (x ∷ xs) (x ∷ ys)

  -- the terminals are none, or this holds of the first one
  abbrev pub Before : (T → Type 0) → List T → Type 0
  Before Holds [] = Unit {0}
  Before Holds (x ∷ rest) = Holds x

-- how reading ends
pub data Ending (V : Type 0) : Type 0 where
  gives : V → Ending V
  wrong : Ending V
  too_deep : Ending V

module _ {T V : Type 0} where
  -- the answer of reading that ends so before these terminals
  abbrev pub ends_with : Ending V → Reader T V
  ends_with (gives v) rest = Ok (v, rest)
  ends_with wrong rest = form_at rest
  ends_with too_deep rest = deep_at rest

  -- something derives from terminals that begin so
  pub record Begins (Is : List T → V → Type 0) (front : List T) : Type 0 where
    pub ending : List T
    pub value : V
    pub derives : Is (front ++ ending) value

  -- What the grammar says where reading ends: the value derives from what was taken. Before a wrong terminal, something
  -- derives from terminals that begin so. Before a level too many too, and with two levels more from those up to and
  -- with it.
  abbrev pub Says : Grammar T V → ℕ → Ending V → List T → List T → Type 0
  Says Is levels_left (gives v) front rest = Is levels_left front v
  Says Is levels_left wrong front rest = Begins (Is levels_left) front
  Says Is levels_left too_deep front [] = ⊥
  Says Is levels_left too_deep front (x ∷ rest) = Begins (Is levels_left) front × Begins (Is (suc (suc levels_left))) (front ++ x ∷ [])

  -- Reading ends in one way for all terminals that agree up to and with the first one that is left, and the grammar
  -- says so.
  pub record Run (Is : Grammar T V) (levels_left : ℕ) (reader : Reader T V) (xs : List T) : Type 0 where
    pub front : List T
    pub rest : List T
    pub outcome : Ending V
    pub split : xs ≡ front ++ rest
    pub reads : (other : List T) → SameFirst rest other → reader (front ++ other) ≡ ends_with outcome other
    pub says : Says Is levels_left outcome front rest

  -- the answer to terminals of which a value derives with levels `needed`: it is the value, unless fewer levels were left
  abbrev pub Agrees : ℕ → ℕ → V → List T → Answer T V → Type 0
  Agrees levels_left needed v rest (Ok (w, left)) = (w ≡ v) × (left ≡ rest)
  Agrees levels_left needed v rest (Err (form left)) = ⊥
  Agrees levels_left needed v rest (Err (deep left)) = levels_left < needed

  -- The reader reads exactly the grammar, where such a terminal or none follows.
  pub record Exact (Is : Grammar T V) (ends : T → Type 0) (levels_left : ℕ) (reader : Reader T V) : Type 0 where
    pub run : (xs : List T) → Run Is levels_left reader xs
    pub complete : (r : ℕ) (xs : List T) (v : V) → Is r xs v → (rest : List T) → Before ends rest →
        Agrees levels_left r v rest (reader (xs ++ rest))
