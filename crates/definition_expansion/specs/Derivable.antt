-- Formulas that derive.
use Rattle.std.specs.Prelude.{◌≡◌, ℕ, List, Option, Some}
use Rattle.spec_syntax.specs.Syntax.{Terminal, FormulaSyntax}
use Rattle.spec_syntax.specs.Grammar.{IsFormula}
use Rattle.spec_syntax.specs.Written.{written}
use Rattle.spec_syntax.specs.Syntax.{Definition}

-- the formula derives from some terminals, with some levels
pub record Derivable (a : FormulaSyntax) : Type 0 where
  pub levels_left : ℕ
  pub terminals : List Terminal
  pub derived : IsFormula levels_left terminals a

-- the formula derives from what it is written with, with these levels left
abbrev pub FormulaDerives : ℕ → FormulaSyntax → Type 0
FormulaDerives levels_left a = IsFormula levels_left (written a) a

-- each definition's body derives
abbrev pub BodiesDerive : (List ℕ → Option Definition) → Type 0
BodiesDerive named = (x : List ℕ) (d : Definition) → named x ≡ Some d → Derivable d.body
