-- How many levels a form needs below the level that it stands at.
use Rattle.std.specs.Prelude.{ℕ, suc}
use Rattle.std.specs.Prelude.{max}
use Rattle.tsl_terms.specs.declared.operator.BinaryOperator.{BinaryOperator}
use Rattle.tsl_terms.specs.declared.operator.BinaryOperator.TheVariants.{Implication, Equivalence, Until, WeakUntil, Release}
use Rattle.spec_syntax.specs.Syntax.{TermSyntax, alone, applied, grouped_term, TermsSyntax, no_terms, more_terms, FormulaSyntax, truth, falsehood, bare, tested, updated, grouped, under, between, joined, FormulasSyntax, no_formulas, more_formulas}

abbrev mutual
  pub term_depth : TermSyntax → ℕ
  term_depth (alone x) = 0
  term_depth (applied f arguments) = terms_depth arguments
  term_depth (grouped_term t) = suc (term_depth t)

  pub terms_depth : TermsSyntax → ℕ
  terms_depth no_terms = 0
  terms_depth (more_terms t ts) = max (term_depth t) (terms_depth ts)

-- what the sides of an operator need: the right side of an arrow stands a level below
abbrev pub depth_of_sides : BinaryOperator → ℕ → ℕ → ℕ
depth_of_sides Implication a b = max a (suc b)
depth_of_sides Equivalence a b = max a (suc b)
depth_of_sides Until a b = max a b
depth_of_sides WeakUntil a b = max a b
depth_of_sides Release a b = max a b

abbrev mutual
  pub depth : FormulaSyntax → ℕ
  depth truth = 0
  depth falsehood = 0
  depth (bare x) = 0
  depth (tested p arguments) = terms_depth arguments
  depth (updated x t) = term_depth t
  depth (grouped a) = suc (depth a)
  depth (under op a) = suc (depth a)
  depth (between op a b) = depth_of_sides op (depth a) (depth b)
  depth (joined op fs) = members_depth fs

  pub members_depth : FormulasSyntax → ℕ
  members_depth no_formulas = 0
  members_depth (more_formulas f fs) = max (depth f) (members_depth fs)
