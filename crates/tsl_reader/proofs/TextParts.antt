-- What is known of a text whose tokens derive: its bounds, its defined names, and what is known of its parts.
use Rattle.std.proofs.Common.{◌≡◌, ℕ, get_or, ◌-◌, ◌<◌, ◌^◌, Bool, List, [], ◌∷◌, map, length, refl, ap, sym, ◌∙◌, subst, arith}
use Rattle.std.specs.Prelude.{Option, Some, None, option_and_then, position, slice_get}
use Rattle.std.specs.List.{AllByRecursion}
use Rattle.std.proofs.lemmas.Option.{none-some, get_or_from_slice_get}
use Rattle.base_library.proofs.Places.{slice_get_mapped}
use Rattle.base_library.proofs.Options.{found_place, no_place}
use Rattle.tsl_text.specs.declared.Token.{Token}
use Rattle.tsl_terms.specs.Name.{Name, texts}
use Rattle.spec_syntax.specs.Syntax.{SectionSyntax, Definition, Declaration, the_section, the_definition, sections_among}
use Rattle.spec_syntax.specs.Texts.{terminals}
use Rattle.definition_expansion.specs.DefinitionView.{definition_of, AreHeads}
use Rattle.definition_expansion.specs.declared.definitions.ReadDefinition.{ReadDefinition}
use Rattle.definition_expansion.specs.Uses.{IsOrder, IsFirstOnCycle}
use Rattle.name_resolution.specs.Heads.{definitions_in, heads_in, heads_size}
use Rattle.name_resolution.specs.Occurrences.{Occurrence, occurrences}
use Rattle.name_resolution.specs.Faults.{is_redefined, is_head_of, has_kind_fault, has_arity_fault}
use Rattle.name_resolution.specs.WrittenNames.{IsBelowDepth}
use Rattle.name_resolution.specs.WellDeclared.{heads_of, names_in, AreNamedWell, is_use_too_deep}
use Rattle.name_resolution.proofs.Bounds.{heads_within, levels_below}
use Rattle.name_resolution.proofs.WholeText.{heads_stand}
use Rattle.name_resolution.proofs.HeadPlaces.{ordered_are_acyclic, head_place}
use Rattle.tsl_reader.specs.Spells.{deepest_level, name_tokens, IsFirstName, HasHeadFault, HasCycleFault, HasKindFault}
use Rattle.tsl_reader.specs.Spells.{HasArityFault, HasDeepUse}
use Rattle.tsl_reader.specs.ReadText.{AreDeclared, with_names_once, AreTextNames, AreTextParts, AreInOrder, AreWell}
use Rattle.tsl_reader.proofs.Counts.{names_in_text}
use Rattle.tsl_reader.proofs.NamePlaces.{token_at}
use Rattle.tsl_reader.proofs.Parameters.{parameters_once}

-- ---- bounds

module _ {text : List ℕ} {tokens : List Token} {ds : List Declaration} (d : AreDeclared text tokens ds) where
  pub few_names : length text < 2 ^ 32 - 1 → length (names_in ds) < 2 ^ 32
  few_names short = omega (arith, short, names_in_text text tokens d.0 ds d.1)

  pub few_heads : length text < 2 ^ 32 - 1 → heads_size ds < 2 ^ 32
  few_heads short = omega (arith, few_names short, heads_within (heads_of ds) ds)

  pub few_levels : AllByRecursion (IsBelowDepth (2 ^ 32)) ds
  few_levels = levels_below (2 ^ 32) deepest_level (terminals text tokens) d.0 ds (omega arith) d.1.derived

-- ---- the names

abbrev pub stands_wrong : Occurrence → Bool
stands_wrong o = is_redefined o.role

module _ {text : List ℕ} {tokens : List Token} {heads : List Name} {all : List Occurrence} (n : AreTextNames text tokens heads all) where
  pub few_occurrences : length text < 2 ^ 32 - 1 → length all < 2 ^ 32
  few_occurrences short = rw n.names_are (few_names (n.own, n.derives) short)

  -- by the defined names and all names a test tells the same one of a text's names
  same : (test : List Name → List Occurrence → Occurrence → Bool) → position (test heads all) all
      ≡ position (test (heads_of n.declarations) (names_in n.declarations)) (names_in n.declarations)
  same test = λ i. position (test (n.heads_are i) (n.names_are i)) (n.names_are i)

  -- the token that is told is that of the first name that passes
  pub told : (test : List Name → List Occurrence → Occurrence → Bool) {place : Option ℕ} {token : Token} →
      place ≡ position (test heads all) all → Some token ≡ option_and_then (slice_get (name_tokens text tokens)) place →
      IsFirstName (test (heads_of n.declarations) (names_in n.declarations)) text tokens n.declarations token.start token.end
  told test {place = place} {token = token} is found =
      let at = found_place (name_tokens text tokens) place token found in
      record { at = at.0; first = sym (same test) ∙ sym is ∙ at.1; token = token; there = at.2; starts = refl; ends = refl }

  -- where none is told none passes
  pub none : (test : List Name → List Occurrence → Occurrence → Bool) {place : Option ℕ} → place ≡ position (test heads all) all →
      None ≡ option_and_then (slice_get (name_tokens text tokens)) place → position (test heads all) all ≡ None
  none test {place = place} is nothing =
      sym is ∙ no_place (name_tokens text tokens) place (λ at there.
      token_at (test (heads_of n.declarations) (names_in n.declarations)) text tokens n.own n.declarations n.derives at
      (sym (same test) ∙ sym is ∙ there)) nothing

  pub head_told : {place : Option ℕ} {token : Token} → place ≡ position stands_wrong all →
      Some token ≡ option_and_then (slice_get (name_tokens text tokens)) place → HasHeadFault text token.start token.end
  head_told is found = record {
    tokens = tokens;
    own = n.own;
    declarations = n.declarations;
    derives = n.derives;
    named = told (λ hs os. stands_wrong) is found;
  }

-- ---- the parts

pub text_parts : {text : List ℕ} {tokens : List Token} {ds es : List Declaration} {heads : List Name} {all : List Occurrence}
    {sections : List SectionSyntax} {definitions : List Definition} → AreDeclared text tokens ds → es ≡ ds → heads ≡ heads_of es →
    all ≡ occurrences heads es → position stands_wrong all ≡ None → sections ≡ sections_among ds →
    definitions ≡ map with_names_once (definitions_in ds) → AreTextParts text tokens heads all sections definitions
text_parts {ds = ds} d read are also once ss qs =
    let heads_are = are ∙ ap heads_of read in
    let names_are = also ∙ (λ i. occurrences (heads_are i) (read i)) in
    record {
      named = record { own = d.0; declarations = ds; derives = d.1; heads_are = heads_are; names_are = names_are };
      sections_are = ss;
      definitions_are = qs ∙ parameters_once ds (heads_of ds) (sym (ap (position stands_wrong) names_are) ∙ once);
      once = once;
    }

-- the name of the definition at a place
pub named_at : (ds : List ReadDefinition) (number : ℕ) (d : ReadDefinition) (e : Definition) → slice_get (map definition_of ds) number ≡ Some e →
    (get_or ds number d).name.now ≡ e.name
named_at ds number d e h =
    let found = slice_get_mapped definition_of ds number e h in
    ap (λ (x : ReadDefinition). x.name.now) (get_or_from_slice_get ds number found.0 d found.1) ∙ ap (λ (q : Definition). q.name) found.2

-- the texts of heads are the names of the definitions
texts_of_heads : (ds : List Declaration) → texts (heads_in ds) ≡ map (λ d. d.name) (definitions_in ds)
texts_of_heads [] = refl
texts_of_heads (the_section s ∷ ds) = texts_of_heads ds
texts_of_heads (the_definition d ∷ ds) = ap (λ xs. d.name ∷ xs) (texts_of_heads ds)

module _ {text : List ℕ} {tokens : List Token} {heads : List Name} {all : List Occurrence} {sections : List SectionSyntax} where
  once_in : {ds : List Definition} (p : AreTextParts text tokens heads all sections ds) →
      position stands_wrong (names_in p.named.declarations) ≡ None
  once_in p = sym (same p.named (λ hs os. stands_wrong)) ∙ p.once

  pub heads_are_names : (ds : List ReadDefinition) → AreTextParts text tokens heads all sections (map definition_of ds) → AreHeads heads ds
  heads_are_names ds p =
      ap texts (p.named.heads_are ∙ heads_stand p.named.declarations (heads_of p.named.declarations) (once_in p))
      ∙ texts_of_heads p.named.declarations ∙ ap (map (λ d. d.name)) (sym p.definitions_are)

  -- an order leaves no definition that reaches itself
  pub in_order : {ds : List Definition} {order : List ℕ} → AreTextParts text tokens heads all sections ds → IsOrder ds order →
      AreInOrder text tokens heads all sections ds
  in_order {order = order} p is = record {
    parts = p;
    acyclic = rw p.definitions_are (ordered_are_acyclic p.named.declarations order (once_in p) (rw p.definitions_are at is));
  }

  -- and where there is no definition none does
  pub none_to_order : AreTextParts text tokens heads all sections [] → AreInOrder text tokens heads all sections []
  none_to_order p = record { parts = p; acyclic = λ i d at. absurd (none-some d at) }

  pub well_named : {ds : List Definition} (w : AreWell text tokens heads all sections ds) → AreNamedWell w.ordered.parts.named.declarations
  well_named w =
      let n = w.ordered.parts.named in
      record {
        once = once_in w.ordered.parts;
        acyclic = rw w.ordered.parts.definitions_are at w.ordered.acyclic;
        kinds = sym (same n (λ hs os. has_kind_fault os)) ∙ w.kinds;
        arities = sym (same n has_arity_fault) ∙ w.arities;
      }

  -- ---- what is wrong

  module _ {number : ℕ} {place : Option ℕ} where
    cycle_of : {ds : List Definition} (p : AreTextParts text tokens heads all sections ds) {token : Token} →
        Some token ≡ option_and_then (slice_get (name_tokens text tokens)) place →
        (cycle : IsFirstOnCycle (definitions_in p.named.declarations) number) → place ≡ position (is_head_of cycle.definition.name) all →
        HasCycleFault text token.start token.end
    cycle_of p found cycle is = record {
      tokens = tokens;
      own = p.named.own;
      declarations = p.named.declarations;
      derives = p.named.derives;
      once = once_in p;
      number = number;
      cycle = cycle;
      named = told p.named (λ hs os. is_head_of cycle.definition.name) is found;
    }

    pub cycle_told : {ds : List Definition} {token : Token} → AreTextParts text tokens heads all sections ds →
        (cycle : IsFirstOnCycle ds number) → place ≡ position (is_head_of cycle.definition.name) all →
        Some token ≡ option_and_then (slice_get (name_tokens text tokens)) place → HasCycleFault text token.start token.end
    cycle_told {token = token} p cycle is found =
        subst (λ qs. (cycle : IsFirstOnCycle qs number) → place ≡ position (is_head_of cycle.definition.name) all →
        HasCycleFault text token.start token.end) (sym p.definitions_are) (cycle_of p found) cycle is

    -- the definition's name is defined somewhere
    pub cycle_stands : {ds : List Definition} → AreTextParts text tokens heads all sections ds → (cycle : IsFirstOnCycle ds number) →
        place ≡ position (is_head_of cycle.definition.name) all → None ≡ option_and_then (slice_get (name_tokens text tokens)) place → ⊥
    cycle_stands p cycle is nothing =
        let test = λ (hs : List Name) (os : List Occurrence). is_head_of cycle.definition.name in
        let at = head_place p.named.declarations (heads_of p.named.declarations) (once_in p) number cycle.definition
        (rw p.definitions_are at cycle.here) in
        none-some at.0 (sym (none p.named test is nothing) ∙ same p.named test ∙ at.1)

  module _ {ds : List Definition} {place : Option ℕ} {token : Token}
      (found : Some token ≡ option_and_then (slice_get (name_tokens text tokens)) place) where
    pub kind_told : AreInOrder text tokens heads all sections ds → place ≡ position (has_kind_fault all) all →
        HasKindFault text token.start token.end
    kind_told o is =
        let n = o.parts.named in
        record {
          tokens = tokens;
          own = n.own;
          declarations = n.declarations;
          derives = n.derives;
          once = once_in o.parts;
          acyclic = rw o.parts.definitions_are at o.acyclic;
          named = told n (λ hs os. has_kind_fault os) is found;
        }

    pub arity_told : AreInOrder text tokens heads all sections ds → position (has_kind_fault all) all ≡ None →
        place ≡ position (has_arity_fault heads all) all → HasArityFault text token.start token.end
    arity_told o kinds is =
        let n = o.parts.named in
        record {
          tokens = tokens;
          own = n.own;
          declarations = n.declarations;
          derives = n.derives;
          once = once_in o.parts;
          acyclic = rw o.parts.definitions_are at o.acyclic;
          kinds = sym (same n (λ hs os. has_kind_fault os)) ∙ kinds;
          named = told n has_arity_fault is found;
        }

    pub deep_told : AreWell text tokens heads all sections ds → place ≡ position (is_use_too_deep ds) all →
        HasDeepUse text token.start token.end
    deep_told w is =
        let p = w.ordered.parts in
        record {
          tokens = tokens;
          own = p.named.own;
          declarations = p.named.declarations;
          derives = p.named.derives;
          named_well = well_named w;
          named = told p.named (λ hs os. is_use_too_deep (definitions_in p.named.declarations)) (rw p.definitions_are at is) found;
        }
