-- Internal: only private functions of this crate use these words.
-- The definitions that formulas use, by their numbers.
use Rattle.std.specs.Prelude.{ℕ, List, [], ◌∷◌, ◌++◌, map, Option, Some, None}
use Rattle.std.specs.List.{filter_map}
use Rattle.tsl_terms.specs.Name.{Name, number_of}
use Rattle.spec_syntax.specs.Syntax.{FormulaSyntax, truth, falsehood, bare, tested, updated, grouped, under, between}
use Rattle.spec_syntax.specs.Syntax.{joined, FormulasSyntax, no_formulas, more_formulas, Definition}
use Rattle.definition_expansion.specs.Expansion.{passed_names}

abbrev pub name_of_test : List ℕ → Option (List (List ℕ)) → List (List ℕ)
name_of_test p None = []
name_of_test p (Some ys) = p ∷ []

-- the names that stand where a defined name is a use
abbrev mutual
  pub used_names : FormulaSyntax → List (List ℕ)
  used_names truth = []
  used_names falsehood = []
  used_names (bare x) = x ∷ []
  used_names (tested p ts) = name_of_test p (passed_names ts)
  used_names (updated x t) = []
  used_names (grouped a) = used_names a
  used_names (under op a) = used_names a
  used_names (between op a b) = used_names a ++ used_names b
  used_names (joined op fs) = members_used_names fs

  pub members_used_names : FormulasSyntax → List (List ℕ)
  members_used_names no_formulas = []
  members_used_names (more_formulas f fs) = used_names f ++ members_used_names fs

-- the numbers of the defined ones
abbrev pub numbers_of : List Name → List (List ℕ) → List ℕ
numbers_of heads names = filter_map (number_of heads) names

-- for each definition the numbers of those that it uses
abbrev pub use_graph : List Name → List Definition → List (List ℕ)
use_graph heads ds = map (λ d. numbers_of heads (used_names d.body)) ds
