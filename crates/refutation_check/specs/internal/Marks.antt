-- Internal: the literals that a step's hints made true, as a table with two places for each variable.
use Rattle.std.specs.Prelude.{◌≡◌, ℕ, ◌*◌, ◌<◌, Bool, false, List, ◌∷◌, length, slice_index_or}
use Rattle.clause_core.specs.Literals.{Lit, has, code_of}
use Rattle.clause_core.specs.Clauses.{IsOver}
use Rattle.refutation_check.specs.Checking.{HintEffect, ends, makes, shows_nothing}
use Rattle.refutation_check.specs.declared.marks.Look.{Look}
use Rattle.refutation_check.specs.declared.marks.Look.TheVariants.{Ends, Makes, ShowsNothing}

-- how many variables there are, and the literals that are true, the last one first
pub record Trues : Type 0 where
  pub variables : ℕ
  pub literals : List Lit

-- one more literal is true
abbrev pub with_true : Trues → Lit → Trues
with_true t l = record { variables = t.variables; literals = l ∷ t.literals }

-- the table says of each literal, by its code, whether it is true
pub record IsTruthTable (variables : ℕ) (truths : List Bool) (literals : List Lit) : Type 0 where
  pub all : length truths ≡ 2 * variables
  pub over : IsOver variables literals
  pub each : (l : Lit) → l.index < variables → slice_index_or truths (code_of l) false ≡ has literals l

-- what a look at a clause found
abbrev pub effect_of : Look → HintEffect
effect_of Ends = ends
effect_of (Makes l) = makes l
effect_of ShowsNothing = shows_nothing
