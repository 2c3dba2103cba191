-- The formulas of sections get their numbers and fit the names, where each name that the sections use is usable and no name is
-- used in two ways, whatever the sections derive from.
use Rattle.std.proofs.Common.{ℕ, ◌≤◌, List}
use Rattle.std.specs.Prelude.{filter}
use Rattle.std.specs.List.{AllByRecursion}
use Rattle.base_library.proofs.Each.{each_flat_map, each_filtered}
use Rattle.tsl_terms.specs.Clashes.{alike_in_kind, same_arity, HasNoClash}
use Rattle.spec_syntax.specs.declared.syntax.Part.{Part}
use Rattle.spec_syntax.specs.Syntax.{Terminal, SectionSyntax}
use Rattle.spec_syntax.specs.Grammar.{AreSections}
use Rattle.tsl_reader.specs.Naming.{written_uses, names_of, same_part, formulas_of_part}
use Rattle.tsl_reader.specs.Spells.{deepest_level}
use Rattle.tsl_reader.proofs.Shapes.{sections_shaped}
use Rattle.tsl_reader.proofs.Fits.{ListGood, list_good}
use Rattle.tsl_reader.proofs.Results.{IsKnown, sections_known}
use Rattle.tsl_reader.proofs.UsesAreKnown.{UsesAreUsable, all_known}

pub list_of_part : (levels_left : ℕ) (xs : List Terminal) (ss : List SectionSyntax) → levels_left ≤ deepest_level → AreSections levels_left xs ss →
    UsesAreUsable ss → HasNoClash alike_in_kind (written_uses ss) → HasNoClash same_arity (written_uses ss) →
    (part : Part) → ListGood (names_of ss) (formulas_of_part part ss)
list_of_part levels_left xs ss few derived usable kinds arities part =
    let known = sections_known (names_of ss) ss (sections_shaped derived few) (all_known ss usable kinds arities) in
    list_good (names_of ss) (formulas_of_part part ss)
    (each_flat_map (IsKnown (names_of ss)) (λ s. s.formulas) (filter (λ s. same_part part s.part) ss)
    (each_filtered (λ s. AllByRecursion (IsKnown (names_of ss)) s.formulas) (λ s. same_part part s.part) ss known))
