-- What words stand for.
use Rattle.std.specs.Prelude.{ℕ, List, Option}
use Rattle.tsl_terms.specs.Value.{Meanings}
use Rattle.tsl_meaning.specs.Interpretation.{Interpretation, meanings_with}

-- an interpretation, the cells whose values at first it has, in its order, and the number of equality
pub record WordsMeaning : Type 0 where
  pub cells : List ℕ
  pub equality : Option ℕ
  pub interpretation : Interpretation

-- what symbols and cells mean
abbrev pub meanings_of : WordsMeaning → Meanings ℕ
meanings_of w = meanings_with w.equality w.cells w.interpretation
