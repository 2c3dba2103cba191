-- Internal: only private functions of this crate use these words.
-- Formulas with numbers, as they are gathered.
use Rattle.std.specs.Prelude.{◌≡◌, List, [], ◌++◌, Option, Some, option_map, IsTrue, if◌then◌else◌}
use Rattle.std.specs.List.{list_all}
use Rattle.tsl_terms.specs.Name.{Name}
use Rattle.tsl_terms.specs.FormulaTree.{FormulaTree}
use Rattle.tsl_terms.specs.WellFormed.{formula_fits}
use Rattle.spec_syntax.specs.declared.syntax.Part.{Part}
use Rattle.spec_syntax.specs.Syntax.{FormulaSyntax, SectionSyntax}
use Rattle.tsl_reader.specs.Naming.{same_part, numbered_list}

-- these formulas, and then those that get their numbers
abbrev pub formulas_after : List FormulaTree → Option (List FormulaTree) → Option (List FormulaTree)
formulas_after front rest = option_map (λ trees. front ++ trees) rest

-- the formulas of a section, where they go to this list
abbrev pub formulas_if : Part → SectionSyntax → List FormulaSyntax
formulas_if part s = if same_part part s.part then s.formulas else []

-- the formulas have their numbers, and then fit the names
pub record HasNumbers (names : List Name) (fs : List FormulaSyntax) : Type 0 where
  pub trees : List FormulaTree
  pub numbered : numbered_list names fs ≡ Some trees
  pub fit : IsTrue (list_all (formula_fits names) trees)
