-- The atoms that may be uses, each with the level that it stands at, in the order of the text.
use Rattle.std.specs.Prelude.{ℕ, suc, ◌+◌, ◌≤◌, List, [], ◌∷◌, ◌++◌, Option, Some, None}
use Rattle.tsl_terms.specs.declared.operator.BinaryOperator.{BinaryOperator}
use Rattle.tsl_terms.specs.declared.operator.BinaryOperator.TheVariants.{Implication, Equivalence, Until, WeakUntil, Release}
use Rattle.spec_syntax.specs.Syntax.{FormulaSyntax, truth, falsehood, bare, tested, updated, grouped, under, between}
use Rattle.spec_syntax.specs.Syntax.{joined, FormulasSyntax, no_formulas, more_formulas}
use Rattle.definition_expansion.specs.Expansion.{passed_names}

-- a name at a level
pub record At : Type 0 where
  pub name : List ℕ
  pub level : ℕ

abbrev pub level_of_right : BinaryOperator → ℕ → ℕ
level_of_right Implication level = suc level
level_of_right Equivalence level = suc level
level_of_right Until level = level
level_of_right WeakUntil level = level
level_of_right Release level = level

abbrev pub test_at : ℕ → List ℕ → Option (List (List ℕ)) → List At
test_at level p None = []
test_at level p (Some ys) = (record { name = p; level = level }) ∷ []

abbrev mutual
  pub uses_at : ℕ → FormulaSyntax → List At
  uses_at level truth = []
  uses_at level falsehood = []
  uses_at level (bare x) = (record { name = x; level = level }) ∷ []
  uses_at level (tested p ts) = test_at level p (passed_names ts)
  uses_at level (updated x t) = []
  uses_at level (grouped a) = uses_at (suc level) a
  uses_at level (under op a) = uses_at (suc level) a
  uses_at level (between op a b) = uses_at level a ++ uses_at (level_of_right op level) b
  uses_at level (joined op fs) = members_uses_at level fs

  pub members_uses_at : ℕ → FormulasSyntax → List At
  members_uses_at level no_formulas = []
  members_uses_at level (more_formulas f fs) = uses_at level f ++ members_uses_at level fs

-- what stands in the place of a use at this level needs no level above the deepest one
abbrev pub IsUseWithin : ℕ → ℕ → Option ℕ → Type 0
IsUseWithin deepest level None = Unit {0}
IsUseWithin deepest level (Some n) = level + n ≤ deepest

abbrev pub AreWithin : ℕ → (List ℕ → Option ℕ) → List At → Type 0
AreWithin deepest needs [] = Unit {0}
AreWithin deepest needs (u ∷ us) = IsUseWithin deepest u.level (needs u.name) × AreWithin deepest needs us
