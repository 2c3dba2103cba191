-- What is made of a text with definitions: its sections, expanded and without brackets, or that it has too many nodes.
use Rattle.std.proofs.Common.{◌≡◌, ℕ, ◌<◌, ◌≤◌, List, map, refl, sym, ◌∙◌, subst, arith}
use Rattle.std.specs.Prelude.{None, min, position}
use Rattle.tsl_text.specs.declared.Token.{Token}
use Rattle.tsl_terms.specs.Name.{Name}
use Rattle.spec_syntax.specs.declared.syntax.Part.TheVariants.{AssumeFirst, AssumeAlways, GuaranteeFirst, GuaranteeAlways}
use Rattle.spec_syntax.specs.Syntax.{Terminal, SectionSyntax, Definition, Declaration, sections_among}
use Rattle.definition_expansion.specs.declared.sizing.Size.{Size}
use Rattle.definition_expansion.specs.declared.sizing.TheConstants.{NODES_STOP}
use Rattle.definition_expansion.specs.Uses.{IsOrder}
use Rattle.definition_expansion.specs.SectionExpansion.{expanded_sections}
use Rattle.definition_expansion.specs.ExpansionSizes.{AreSizes}
use Rattle.name_resolution.specs.Heads.{definitions_in}
use Rattle.name_resolution.specs.Occurrences.{Occurrence}
use Rattle.name_resolution.specs.Faults.{has_kind_fault, has_arity_fault}
use Rattle.name_resolution.specs.WellDeclared.{heads_of, names_in, is_use_too_deep}
use Rattle.name_resolution.proofs.Expanded.{expansion_fits}
use Rattle.tsl_reader.specs.Naming.{names_of}
use Rattle.tsl_reader.specs.Spells.{most_formula_nodes, HasTooManyNodes}
use Rattle.tsl_reader.specs.ReadText.{AreTextParts, AreWell, AreExpanded}
use Rattle.tsl_reader.specs.Expanding.{replacing_in, expanded_bare, nodes_of_sections}
use Rattle.tsl_reader.proofs.BareExpansions.{bare_stand, sections_few}
use Rattle.tsl_reader.proofs.ExpandedTexts.{TextExpands, list_good}
use Rattle.tsl_reader.proofs.LevelsOfSizes.{levels_of, levels_are, first_by_levels}
use Rattle.tsl_reader.proofs.ManyNodesAreTold.{spec_of, many_nodes_are_told}
use Rattle.tsl_reader.proofs.TextParts.{well_named, in_order}

module _ {text : List ℕ} {tokens : List Token} {heads : List Name} {all : List Occurrence} {ss : List SectionSyntax}
    {defined : List Definition} {sizes : List Size} (w : AreWell text tokens heads all ss defined) (are : AreSizes heads defined sizes)
    (deep : position (is_use_too_deep defined) all ≡ None) where
  abbrev p : AreTextParts text tokens heads all ss defined
  p = w.ordered.parts

  abbrev ds : List Declaration
  ds = p.named.declarations

  abbrev whole : List SectionSyntax
  whole = expanded_sections (replacing_in (definitions_in ds)) (sections_among ds)

  -- the sections with the expansions of their formulas derive from what their terminals expand to
  expands : (xs : List Terminal) × TextExpands text tokens p.named.own ds xs whole
  expands =
      let levels = levels_are (heads_of ds) (definitions_in ds) sizes
      (subst (λ qs. AreSizes (heads_of ds) qs sizes) p.definitions_are (subst (λ hs. AreSizes hs defined sizes) p.named.heads_are are)) in
      let none = first_by_levels (heads_of ds) (levels_of sizes) (definitions_in ds) levels (names_in ds)
      ∙ sym (λ i. position (is_use_too_deep (p.definitions_are i)) (p.named.names_are i)) ∙ deep in
      let found = expansion_fits ds (well_named w) p.named.derives.derived (levels_of sizes) levels none in
      (found.0, record { derives = p.named.derives; well = well_named w; expands = found.1; sections_are = found.2 })

  same_nodes : nodes_of_sections defined ss ≡ nodes_of_sections (definitions_in ds) (sections_among ds)
  same_nodes = λ i. nodes_of_sections (p.definitions_are i) (p.sections_are i)

  pub well_expanded : nodes_of_sections defined ss ≤ most_formula_nodes → AreExpanded text (map (expanded_bare defined) ss)
  well_expanded few =
      subst (AreExpanded text) (sym (λ i. map (expanded_bare (p.definitions_are i)) (p.sections_are i))) (record {
        tokens = tokens;
        own = p.named.own;
        declarations = ds;
        derives = p.named.derives;
        named_well = well_named w;
        expanded = expands.0;
        expands = expands.1.expands;
        sections = whole;
        sections_are = expands.1.sections_are;
        stand_for = bare_stand (definitions_in ds) (sections_among ds);
        few = omega (arith, few, same_nodes, sections_few (definitions_in ds) (sections_among ds));
      })

  pub well_refused : most_formula_nodes < min NODES_STOP (nodes_of_sections defined ss) → HasTooManyNodes text
  well_refused many =
      let good = list_good text tokens p.named.own ds expands.0 whole expands.1 in
      record {
        spec = spec_of (names_of whole) whole good;
        derived = record {
          tokens = tokens;
          own = p.named.own;
          declarations = ds;
          derives = p.named.derives;
          named_well = well_named w;
          expanded = expands.0;
          expands = expands.1.expands;
          sections = whole;
          sections_are = expands.1.sections_are;
          names = refl;
          assume_first = (good AssumeFirst).numbered_are;
          assume_always = (good AssumeAlways).numbered_are;
          guarantee_first = (good GuaranteeFirst).numbered_are;
          guarantee_always = (good GuaranteeAlways).numbered_are;
        };
        many_nodes = many_nodes_are_told NODES_STOP most_formula_nodes (names_of whole) (definitions_in ds) (sections_among ds) good
            (omega (arith, many, same_nodes));
      }

pub all_well : {text : List ℕ} {tokens : List Token} {heads : List Name} {all : List Occurrence} {ss : List SectionSyntax}
    {ds : List Definition} {order : List ℕ} → AreTextParts text tokens heads all ss ds → IsOrder ds order →
    position (has_kind_fault all) all ≡ None → position (has_arity_fault heads all) all ≡ None → AreWell text tokens heads all ss ds
all_well parts is kinds arities = record { ordered = in_order parts is; kinds = kinds; arities = arities }
