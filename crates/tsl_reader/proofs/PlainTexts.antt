-- A text without a definition expands to itself.
use Rattle.std.proofs.Common.{◌≡◌, ℕ, ◌-◌, ◌<◌, ◌^◌, ◌==◌, suc, true, List, [], ◌∷◌, length, map, refl, ap, sym, arith}
use Rattle.std.proofs.lemmas.Bool.{eqb-true}
use Rattle.std.proofs.lemmas.List.{length-map}
use Rattle.tsl_text.specs.declared.Token.{Token}
use Rattle.tsl_terms.specs.Name.{Name}
use Rattle.spec_syntax.specs.Syntax.{SectionSyntax, Declaration, the_section, the_definition}
use Rattle.spec_syntax.specs.Syntax.{sections_among}
use Rattle.spec_syntax.proofs.DeclarationLaws.{sections_derive}
use Rattle.definition_expansion.specs.declared.definitions.ReadDefinition.{ReadDefinition}
use Rattle.definition_expansion.specs.DefinitionView.{definition_of}
use Rattle.name_resolution.specs.Heads.{definitions_in}
use Rattle.name_resolution.specs.Occurrences.{Occurrence}
use Rattle.tsl_reader.specs.Naming.{all_uses, numbered_list, formulas_of_part}
use Rattle.tsl_reader.specs.ReadText.{AreTextParts, AreWell, AreExpanded}
use Rattle.name_resolution.specs.Faults.{name_of}
use Rattle.name_resolution.specs.WellDeclared.{names_in}
use Rattle.tsl_reader.proofs.Counts.{names_in_text}
use Rattle.tsl_reader.proofs.TextParts.{well_named}
use Rattle.tsl_reader.proofs.WithoutDefinitions.{as_text, expand_alone, names_plain}

-- ---- a text without a definition is its sections

are_sections : (ds : List Declaration) → definitions_in ds ≡ [] → ds ≡ map the_section (sections_among ds)
are_sections [] h = refl
are_sections (the_section s ∷ ds) h = ap (λ es. the_section s ∷ es) (are_sections ds h)
are_sections (the_definition d ∷ ds) h = cc

module _ {text : List ℕ} {tokens : List Token} {heads : List Name} {all : List Occurrence} {ss : List SectionSyntax} where
  pub no_definition : (ds : List ReadDefinition) → (length ds == 0) ≡ true → AreTextParts text tokens heads all ss (map definition_of ds) →
      AreTextParts text tokens heads all ss []
  no_definition [] none p = p
  no_definition (d ∷ ds) none p = absurd (omega (arith, eqb-true (suc (length ds)) 0 none))

  pub plain_expanded : AreWell text tokens heads all ss [] → length text < 2 ^ 32 - 1 → AreExpanded text ss
  plain_expanded w short =
      let p = w.ordered.parts in
      let n = p.named in
      let none = sym p.definitions_are in
      record {
        tokens = tokens;
        own = n.own;
        declarations = n.declarations;
        derives = n.derives;
        named_well = well_named w;
        expanded = n.own;
        expands = rw none (expand_alone n.own);
        sections = sections_among n.declarations;
        sections_are = sections_derive n.derives.derived;
        stand_for = record {
          uses = ap all_uses p.sections_are;
          numbers = λ names part. ap (λ rs. numbered_list names (formulas_of_part part rs)) p.sections_are;
        };
        few = omega (
          arith,
          short,
          ap length (ap all_uses p.sections_are),
          length-map (all_uses (sections_among n.declarations)) (λ u. u.name),
          ap length (names_plain (sections_among n.declarations)).0,
          length-map (names_in (as_text (sections_among n.declarations))) name_of,
          ap (λ ds. length (names_in ds)) (are_sections n.declarations none),
          names_in_text text tokens n.own n.declarations n.derives,
        );
      }
