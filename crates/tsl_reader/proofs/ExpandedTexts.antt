-- What the sections of a text expand to has its names, and its formulas get their numbers.
use Rattle.std.proofs.Common.{◌≡◌, ℕ, List, ap, ◌∙◌, arith}
use Rattle.std.specs.Prelude.{flat_map}
use Rattle.std.specs.List.{list_all}
use Rattle.tsl_text.specs.declared.Token.{Token}
use Rattle.tsl_terms.specs.Clashes.{first_uses}
use Rattle.tsl_terms.specs.WellFormed.{formula_fits}
use Rattle.spec_syntax.specs.declared.syntax.Part.{Part}
use Rattle.spec_syntax.specs.Syntax.{Terminal, SectionSyntax, Declaration}
use Rattle.spec_syntax.specs.Grammar.{AreSections}
use Rattle.spec_syntax.specs.Texts.{terminals}
use Rattle.definition_expansion.specs.DefinitionView.{named_in}
use Rattle.definition_expansion.specs.TextExpansion.{Expands}
use Rattle.definition_expansion.specs.WellUsed.{as_written}
use Rattle.name_resolution.specs.Heads.{definitions_in}
use Rattle.name_resolution.specs.WellDeclared.{AreNamedWell}
use Rattle.tsl_reader.specs.Naming.{named_by, names_of, numbered_list, formulas_of_part}
use Rattle.tsl_reader.specs.Numbering.{HasNumbers}
use Rattle.tsl_reader.specs.Spells.{deepest_level, Derives}
use Rattle.tsl_reader.specs.ReadText.{AreExpanded}
use Rattle.tsl_reader.proofs.Fits.{ListGood}
use Rattle.tsl_reader.proofs.PartsAreGood.{list_of_part}
use Rattle.tsl_reader.proofs.UsesAreKnown.{UsesAreUsable}
use Rattle.tsl_reader.proofs.ExpansionsHaveNoClash.{expansions_have_no_clash}
use Rattle.tsl_reader.proofs.ExpansionsUseTheTextsNames.{names_are_usable, expanded_uses_are_usable}

-- the text's own sections expand to these terminals, which derive from these sections
pub record TextExpands (text : List ℕ) (tokens : List Token) (own : List Terminal) (ds : List Declaration) (xs : List Terminal)
    (ss : List SectionSyntax) : Type 0 where
  pub derives : Derives text tokens own ds
  pub well : AreNamedWell ds
  pub expands : Expands (as_written (named_in (definitions_in ds))) own xs
  pub sections_are : AreSections deepest_level xs ss

module _ (text : List ℕ) (tokens : List Token) (own : List Terminal) (ds : List Declaration) (xs : List Terminal)
    (ss : List SectionSyntax) (e : TextExpands text tokens own ds xs ss) where
  -- the names that are used are names of the text
  pub usable : UsesAreUsable ss
  usable =
      expanded_uses_are_usable ds deepest_level xs ss e.well e.derives.derived e.expands e.sections_are
      (names_are_usable text tokens e.derives.tokens_are)

  -- each of the four lists has its numbers, and fits the names
  pub list_good : (part : Part) → ListGood (names_of ss) (formulas_of_part part ss)
  list_good part =
      let none = expansions_have_no_clash ds deepest_level deepest_level (terminals text tokens) own xs ss e.well e.derives.derived e.expands
      e.sections_are in
      list_of_part deepest_level xs ss (omega arith) e.sections_are usable none.0 none.1 part

-- and so those of sections that stand for them
pub has_numbers : (text : List ℕ) (read : List SectionSyntax) → AreExpanded text read → (part : Part) →
    HasNumbers (names_of read) (formulas_of_part part read)
has_numbers text read e part =
    let good = list_good text e.tokens e.own e.declarations e.expanded e.sections
    (record { derives = e.derives; well = e.named_well; expands = e.expands; sections_are = e.sections_are }) part in
    let names : names_of read ≡ names_of e.sections = ap (λ us. first_uses (flat_map named_by us)) e.stand_for.uses in
    record {
      trees = good.trees;
      numbered = e.stand_for.numbers (names_of read) part ∙ ap (λ ns. numbered_list ns (formulas_of_part part e.sections)) names
          ∙ good.numbered_are;
      fit = ap (λ ns. list_all (formula_fits ns) good.trees) names ∙ good.fit;
    }
