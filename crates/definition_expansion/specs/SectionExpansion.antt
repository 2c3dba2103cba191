-- Sections in which each use is replaced.
use Rattle.std.specs.Prelude.{ℕ, List, map, Option}
use Rattle.std.specs.List.{AllByRecursion}
use Rattle.spec_syntax.specs.Syntax.{FormulaSyntax, SectionSyntax, Definition}
use Rattle.definition_expansion.specs.Expansion.{Replacing, expanded}
use Rattle.definition_expansion.specs.WellUsed.{UsesWell}
use Rattle.definition_expansion.specs.Derivable.{FormulaDerives}

abbrev pub expanded_section : Replacing → SectionSyntax → SectionSyntax
expanded_section replacing s = record { part = s.part; formulas = map (expanded replacing (λ x. x)) s.formulas }

abbrev pub expanded_sections : Replacing → List SectionSyntax → List SectionSyntax
expanded_sections replacing = map (expanded_section replacing)

-- each formula of the sections is such
abbrev pub EachFormula : (FormulaSyntax → Type 0) → List SectionSyntax → Type 0
EachFormula Such = AllByRecursion (λ s. AllByRecursion Such s.formulas)

-- in each formula the defined names stand in uses alone, of definitions of a lower rank
abbrev pub SectionsUseWell : (List ℕ → Option Definition) → (List ℕ → ℕ) → ℕ → List SectionSyntax → Type 0
SectionsUseWell named rank below = EachFormula (UsesWell named rank below)

-- each formula derives with these levels left from what it is written with
abbrev pub FormulasDerive : ℕ → List SectionSyntax → Type 0
FormulasDerive levels_left = EachFormula (FormulaDerives levels_left)
