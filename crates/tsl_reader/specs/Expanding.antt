-- Internal: only private functions of this crate use these words.
-- Sections of which each formula is expanded and has no brackets, and how many nodes they have.
use Rattle.std.specs.Prelude.{ℕ, List, length, map, flat_map}
use Rattle.std.specs.List.{sum_by}
use Rattle.spec_syntax.specs.Syntax.{FormulaSyntax, SectionSyntax, Definition}
use Rattle.definition_expansion.specs.DefinitionView.{named_in}
use Rattle.definition_expansion.specs.Expansion.{Replacing, expansion_within, expanded, ungrouped}
use Rattle.definition_expansion.specs.Folds.{fold_by, node_counts}
use Rattle.definition_expansion.specs.ExpansionSizes.{number_in}

-- through as many definitions one within another as there are
abbrev pub replacing_in : List Definition → Replacing
replacing_in ds = expansion_within (named_in ds) (length ds)

abbrev pub bare_expansion : List Definition → FormulaSyntax → FormulaSyntax
bare_expansion ds a = ungrouped (expanded (replacing_in ds) (λ x. x) a)

abbrev pub expanded_bare : List Definition → SectionSyntax → SectionSyntax
expanded_bare ds s = record { part = s.part; formulas = map (bare_expansion ds) s.formulas }

-- how many nodes the expansion of a formula has, those of formulas, and those of the formulas of sections
abbrev pub nodes_of_expansion : List Definition → FormulaSyntax → ℕ
nodes_of_expansion ds a = fold_by node_counts (number_in node_counts ds) a

abbrev pub nodes_of_formulas : List Definition → List FormulaSyntax → ℕ
nodes_of_formulas ds fs = sum_by (nodes_of_expansion ds) fs

abbrev pub nodes_of_sections : List Definition → List SectionSyntax → ℕ
nodes_of_sections ds ss = nodes_of_formulas ds (flat_map (λ s. s.formulas) ss)
