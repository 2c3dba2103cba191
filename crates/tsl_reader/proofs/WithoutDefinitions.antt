-- A text without a definition spells what its sections say, with the names as they stand in them.
use Rattle.std.proofs.Common.{◌≡◌, ℕ, suc, Bool, true, false, not, List, [], ◌∷◌, ◌++◌, map, refl, ap, sym, ◌∙◌, subst}
use Rattle.std.specs.Prelude.{Option, Some, None, flat_map, position, slice_get, option_map, cond, ◌&&◌}
use Rattle.std.proofs.Math.Bool.{and-false}
use Rattle.std.specs.List.{AllByRecursion}
use Rattle.std.specs.Option.{option_map_or}
use Rattle.std.proofs.lemmas.Option.{none-some, slice_get-map}
use Rattle.std.proofs.lemmas.List.{map-append}
use Rattle.base_library.proofs.Each.{each_at, each_from_places, each_joined, each_flat_map}
use Rattle.base_library.proofs.Passes.{list_all_from_places}
use Rattle.tsl_text.specs.declared.Token.{Token}
use Rattle.tsl_text.specs.Division.{AreTokens}
use Rattle.tsl_terms.specs.declared.names.NameKind.TheVariants.{Signal, Predicate, Function}
use Rattle.tsl_terms.specs.Name.{Name, same_kind}
use Rattle.tsl_terms.specs.Clashes.{first_uses, alike_in_kind, same_arity, HasNoClash}
use Rattle.tsl_terms.proofs.FirstUses.{first_of, first_some, named_first}
use Rattle.tsl_terms.specs.SpecTree.{SpecTree}
use Rattle.spec_syntax.specs.Syntax.{Terminal, free, word, mark, TermSyntax, alone, applied, grouped_term, TermsSyntax, no_terms, more_terms}
use Rattle.spec_syntax.specs.Syntax.{FormulaSyntax, truth, falsehood, bare, tested, updated, grouped, under, between}
use Rattle.spec_syntax.specs.Syntax.{joined, FormulasSyntax, no_formulas, more_formulas, SectionSyntax}
use Rattle.spec_syntax.specs.Syntax.{Declaration, the_section}
use Rattle.spec_syntax.specs.declared.syntax.Part.TheVariants.{AssumeFirst, AssumeAlways, GuaranteeFirst, GuaranteeAlways}
use Rattle.spec_syntax.specs.Grammar.{AreSections}
use Rattle.spec_syntax.specs.Texts.{terminals}
use Rattle.spec_syntax.proofs.DeclarationLaws.{sections_are_all}
use Rattle.definition_expansion.specs.DefinitionView.{named_in}
use Rattle.definition_expansion.specs.TextExpansion.{Expands, nothing, kept, used}
use Rattle.definition_expansion.specs.UseLevels.{level_of_right}
use Rattle.definition_expansion.specs.WellUsed.{as_written}
use Rattle.name_resolution.specs.declared.occurrence.Role.TheVariants.{Plain}
use Rattle.name_resolution.specs.Heads.{definitions_in, heads_in}
use Rattle.name_resolution.specs.Occurrences.{Occurrence, Scope, of_section, atom_role, occurrences, term_occurrences}
use Rattle.name_resolution.specs.Occurrences.{terms_occurrences}
use Rattle.name_resolution.specs.Occurrences.{formula_occurrences, members_occurrences, section_occurrences}
use Rattle.name_resolution.specs.Faults.{is_plain, is_redefined, name_of, plain_names, kind_fault_as, arity_fault_as}
use Rattle.name_resolution.specs.Faults.{has_kind_fault, has_arity_fault, is_unlike_first}
use Rattle.name_resolution.specs.Faults.{is_unlike_name}
use Rattle.name_resolution.specs.WellDeclared.{AreNamedWell, NoneOnCycle, heads_of, names_in}
use Rattle.name_resolution.proofs.FirstPlain.{unlike_is}
use Rattle.tsl_reader.specs.Naming.{Use, uses, term_uses, terms_uses, members_uses, section_uses, all_uses, written_uses}
use Rattle.tsl_reader.specs.Naming.{names_of, numbered_list, formulas_of_part}
use Rattle.tsl_reader.specs.Spells.{IsDerived, deepest_level}
use Rattle.name_resolution.proofs.EachName.{each_name}
use Rattle.tsl_reader.proofs.Known.{like_first}
use Rattle.tsl_reader.proofs.NamePlaces.{none_there}
use Rattle.tsl_reader.proofs.UsesStand.{count_same}

-- ---- no definition

abbrev pub as_text : List SectionSyntax → List Declaration
as_text ss = map the_section ss

pub none_defined : (ss : List SectionSyntax) → definitions_in (as_text ss) ≡ []
none_defined [] = refl
none_defined (s ∷ ss) = none_defined ss

no_heads : (ss : List SectionSyntax) → heads_in (as_text ss) ≡ []
no_heads [] = refl
no_heads (s ∷ ss) = no_heads ss

-- where nothing is defined, terminals expand to themselves
pub expand_alone : (xs : List Terminal) → Expands (as_written (named_in [])) xs xs
expand_alone [] = nothing
expand_alone (free x ∷ xs) = kept (free x) refl (expand_alone xs)
expand_alone (word w ∷ xs) = kept (word w) refl (expand_alone xs)
expand_alone (mark m ∷ xs) = kept (mark m) refl (expand_alone xs)

pub expands_to_itself : (ss : List SectionSyntax) (xs : List Terminal) → Expands (as_written (named_in (definitions_in (as_text ss)))) xs xs
expands_to_itself ss xs = subst (λ ds. Expands (as_written (named_in ds)) xs xs) (sym (none_defined ss)) (expand_alone xs)

alone_to_itself : {xs ys : List Terminal} → Expands (as_written (named_in [])) xs ys → xs ≡ ys
alone_to_itself nothing = refl
alone_to_itself (kept x free_name rest) = ap (λ zs. x ∷ zs) (alone_to_itself rest)
alone_to_itself (used x names d defined as_many body rest) = absurd (none-some d defined)

pub expands_only_to_itself : (ss : List SectionSyntax) (xs ys : List Terminal) →
    Expands (as_written (named_in (definitions_in (as_text ss)))) xs ys → xs ≡ ys
expands_only_to_itself ss xs ys expands =
    alone_to_itself (subst (λ ds. Expands (as_written (named_in ds)) xs ys) (none_defined ss) expands)

-- ---- each name is plain

-- plain occurrences of these names, in order
abbrev ArePlain : List Occurrence → List Name → Type 0
ArePlain os ns = (map name_of os ≡ ns) × AllByRecursion (λ (o : Occurrence). o.role ≡ Plain) os

abbrev name_in : Use → Name
name_in u = u.name

joined_names : (os ps : List Occurrence) (us vs : List Use) → map name_of os ≡ map name_in us → map name_of ps ≡ map name_in vs →
    map name_of (os ++ ps) ≡ map name_in (us ++ vs)
joined_names os ps us vs h k = map-append name_of os ps ∙ (λ i. h i ++ k i) ∙ sym (map-append name_in us vs)

abbrev s : Scope
s = of_section []

mutual
  term_names : (level : ℕ) (t : TermSyntax) → map name_of (term_occurrences s level t) ≡ map name_in (term_uses t)
  term_names level (alone x) = refl
  term_names level (applied f ts) = λ i. (record { text = f; kind = Function; arity = count_same ts i }) ∷ terms_names level ts i
  term_names level (grouped_term t) = term_names level t

  terms_names : (level : ℕ) (ts : TermsSyntax) → map name_of (terms_occurrences s level ts) ≡ map name_in (terms_uses ts)
  terms_names level no_terms = refl
  terms_names level (more_terms t ts) =
      joined_names (term_occurrences s level t) (terms_occurrences s level ts) (term_uses t) (terms_uses ts) (term_names level t)
      (terms_names level ts)

mutual
  formula_names : (level : ℕ) (a : FormulaSyntax) → map name_of (formula_occurrences s level a) ≡ map name_in (uses a)
  formula_names level truth = refl
  formula_names level falsehood = refl
  formula_names level (bare x) = refl
  formula_names level (tested p ts) = λ i. (record { text = p; kind = Predicate; arity = count_same ts i }) ∷ terms_names level ts i
  formula_names level (updated x t) = ap (λ ns. (record { text = x; kind = Signal; arity = 0 }) ∷ ns) (term_names level t)
  formula_names level (grouped a) = formula_names (suc level) a
  formula_names level (under op a) = formula_names (suc level) a
  formula_names level (between op a b) =
      joined_names (formula_occurrences s level a) (formula_occurrences s (level_of_right op level) b) (uses a) (uses b)
      (formula_names level a) (formula_names (level_of_right op level) b)
  formula_names level (joined op fs) = members_names level fs

  members_names : (level : ℕ) (fs : FormulasSyntax) → map name_of (members_occurrences s level fs) ≡ map name_in (members_uses fs)
  members_names level no_formulas = refl
  members_names level (more_formulas f fs) =
      joined_names (formula_occurrences s level f) (members_occurrences s level fs) (uses f) (members_uses fs) (formula_names level f)
      (members_names level fs)

formulas_names : (fs : List FormulaSyntax) → map name_of (flat_map (formula_occurrences s 0) fs) ≡ map name_in (flat_map uses fs)
formulas_names [] = refl
formulas_names (f ∷ fs) =
    joined_names (formula_occurrences s 0 f) (flat_map (formula_occurrences s 0) fs) (uses f) (flat_map uses fs) (formula_names 0 f)
    (formulas_names fs)

plain_atom : (p : List ℕ) (names : Option (List (List ℕ))) → atom_role s p names ≡ Plain
plain_atom p None = refl
plain_atom p (Some names) = refl

formula_plain : (f : FormulaSyntax) → AllByRecursion (λ (o : Occurrence). o.role ≡ Plain) (formula_occurrences s 0 f)
formula_plain f = each_name s (λ (o : Occurrence). o.role ≡ Plain) (record {
  signal = λ l x. refl;
  function = λ l n g. refl;
  atom = λ l x u. refl;
  test = λ l n p names u. plain_atom p names;
}) 0 f

occurrences_plain : (ss : List SectionSyntax) → ArePlain (occurrences [] (as_text ss)) (written_uses ss)
occurrences_plain [] = (refl, tt)
occurrences_plain (r ∷ ss) = (
  joined_names (section_occurrences [] r) (occurrences [] (as_text ss)) (section_uses r) (all_uses ss) (formulas_names r.formulas)
      (occurrences_plain ss).0,
  each_joined (λ (o : Occurrence). o.role ≡ Plain) (section_occurrences [] r) (occurrences [] (as_text ss))
      (each_flat_map (λ (o : Occurrence). o.role ≡ Plain) (formula_occurrences s 0) r.formulas
      (each_from_places _ r.formulas (λ i f at. formula_plain f)))
      (occurrences_plain ss).1,
)

pub names_plain : (ss : List SectionSyntax) → ArePlain (names_in (as_text ss)) (written_uses ss)
names_plain ss =
    subst (λ heads. ArePlain (occurrences (first_uses heads) (as_text ss)) (written_uses ss)) (sym (no_heads ss)) (occurrences_plain ss)

-- a signal has no arguments
abbrev pub IsBare : Occurrence → Type 0
IsBare o = same_kind o.kind Signal ≡ true → o.arity ≡ 0

occurrences_bare : (ss : List SectionSyntax) → AllByRecursion IsBare (occurrences [] (as_text ss))
occurrences_bare [] = tt
occurrences_bare (r ∷ ss) =
    each_joined IsBare (section_occurrences [] r) (occurrences [] (as_text ss))
    (each_flat_map IsBare (formula_occurrences s 0) r.formulas
    (each_from_places _ r.formulas (λ i f at. each_name s IsBare (record {
      signal = λ l x h. refl;
      function = λ l n g h. absurd (cc h);
      atom = λ l x u h. refl;
      test = λ l n p names u h. absurd (cc h);
    }) 0 f)))
    (occurrences_bare ss)

pub names_bare : (ss : List SectionSyntax) → AllByRecursion IsBare (names_in (as_text ss))
names_bare ss = subst (λ heads. AllByRecursion IsBare (occurrences (first_uses heads) (as_text ss))) (sym (no_heads ss)) (occurrences_bare ss)

-- ---- no name is wrong

plain_names_are : (os : List Occurrence) → AllByRecursion (λ (o : Occurrence). o.role ≡ Plain) os → plain_names os ≡ map name_of os
plain_names_are [] plain = refl
plain_names_are (o ∷ os) plain =
    ap (λ r. cond (is_plain r) (name_of o ∷ []) [] ++ plain_names os) plain.0 ∙ ap (λ ns. name_of o ∷ ns) (plain_names_are os plain.1)

no_place : {X : Type 0} (p : X → Bool) (xs : List X) → ((i : ℕ) (x : X) → slice_get xs i ≡ Some x → p x ≡ false) → position p xs ≡ None
no_place p xs none = none_there p xs (list_all_from_places (λ x. not (p x)) xs (λ i x at. ap not (none i x at)))

module _ (os : List Occurrence) (us : List Name) (plain : ArePlain os us) where
  names_are : plain_names os ≡ us
  names_are = plain_names_are os plain.1 ∙ plain.0

  pub plain_at : (i : ℕ) (o : Occurrence) → slice_get os i ≡ Some o → o.role ≡ Plain
  plain_at i o there = each_at (λ (p : Occurrence). p.role ≡ Plain) os i o plain.1 there

  -- the first use of a name, and whether an occurrence is not like it
  pub unlike_there : (alike : Name → Name → Bool) → (i : ℕ) (o : Occurrence) → slice_get os i ≡ Some o →
      (f : Name) × (first_of us o.text ≡ Some f) × (is_unlike_first alike os o ≡ not (alike f (name_of o)))
  unlike_there alike i o there =
      let here : slice_get us i ≡ Some (name_of o) =
      ap (λ ns. slice_get ns i) (sym plain.0) ∙ slice_get-map name_of os i ∙ ap (option_map name_of) there in
      let first = first_some us i (name_of o) here in (
        first.0,
        first.1,
        sym (unlike_is alike (first_uses us) os o (ap first_uses (sym names_are)))
            ∙ ap (λ found. option_map_or (λ n. not (alike n (name_of o))) found false) (named_first us o.text ∙ first.1),
      )

  like_the_first : (alike : Name → Name → Bool) → HasNoClash alike us → (i : ℕ) (o : Occurrence) → slice_get os i ≡ Some o →
      is_unlike_first alike os o ≡ false
  like_the_first alike none i o there =
      let here : slice_get us i ≡ Some (name_of o) =
      ap (λ ns. slice_get ns i) (sym plain.0) ∙ slice_get-map name_of os i ∙ ap (option_map name_of) there in
      let first = first_some us i (name_of o) here in
      sym (unlike_is alike (first_uses us) os o (ap first_uses (sym names_are)))
      ∙ ap (λ found. option_map_or (λ n. not (alike n (name_of o))) found false) (named_first us o.text ∙ first.1)
      ∙ ap not (like_first alike us none i (name_of o) first.0 here first.1)

  pub none_redefined : position (λ (o : Occurrence). is_redefined o.role) os ≡ None
  none_redefined = no_place (λ (o : Occurrence). is_redefined o.role) os (λ i o there. ap is_redefined (plain_at i o there))

  no_kind_fault : HasNoClash alike_in_kind us → position (has_kind_fault os) os ≡ None
  no_kind_fault none =
      no_place (has_kind_fault os) os (λ i o there. ap (λ r. kind_fault_as r o (is_unlike_first alike_in_kind os o)) (plain_at i o there)
      ∙ like_the_first alike_in_kind none i o there)

  no_arity_fault : (heads : List Name) → HasNoClash same_arity us → position (has_arity_fault heads os) os ≡ None
  no_arity_fault heads none =
      no_place (has_arity_fault heads os) os
      (λ i o there. ap (λ r. arity_fault_as r o (is_unlike_name same_arity heads o) (is_unlike_first same_arity os o)) (plain_at i o there)
      ∙ ap (λ b. not (same_kind o.kind Signal) && b) (like_the_first same_arity none i o there) ∙ and-false (not (same_kind o.kind Signal)))

pub no_cycle : (ss : List SectionSyntax) → NoneOnCycle (definitions_in (as_text ss))
no_cycle ss = subst NoneOnCycle (sym (none_defined ss)) (λ i d there cycle. none-some d there)

pub named_well : (ss : List SectionSyntax) → HasNoClash alike_in_kind (written_uses ss) → HasNoClash same_arity (written_uses ss) →
    AreNamedWell (as_text ss)
named_well ss kinds arities =
    let plain = names_plain ss in
    record {
      once = none_redefined (names_in (as_text ss)) (written_uses ss) plain;
      acyclic = no_cycle ss;
      kinds = no_kind_fault (names_in (as_text ss)) (written_uses ss) plain kinds;
      arities = no_arity_fault (names_in (as_text ss)) (written_uses ss) plain (heads_of (as_text ss)) arities;
    }

-- ---- what the text spells

pub derived_alone : (text : List ℕ) (spec : SpecTree) (tokens : List Token) (ss : List SectionSyntax) → AreTokens text tokens →
    AreSections deepest_level (terminals text tokens) ss → HasNoClash alike_in_kind (written_uses ss) →
    HasNoClash same_arity (written_uses ss) → spec.names ≡ names_of ss →
    numbered_list spec.names (formulas_of_part AssumeFirst ss) ≡ Some spec.assume_first →
    numbered_list spec.names (formulas_of_part AssumeAlways ss) ≡ Some spec.assume_always →
    numbered_list spec.names (formulas_of_part GuaranteeFirst ss) ≡ Some spec.guarantee_first →
    numbered_list spec.names (formulas_of_part GuaranteeAlways ss) ≡ Some spec.guarantee_always → IsDerived text spec
derived_alone text spec tokens ss tokens_are sections_are kinds arities names assume_first assume_always guarantee_first guarantee_always = record {
  tokens = tokens;
  own = terminals text tokens;
  declarations = as_text ss;
  derives = record { tokens_are = tokens_are; derived = sections_are_all sections_are };
  named_well = named_well ss kinds arities;
  expanded = terminals text tokens;
  expands = expands_to_itself ss (terminals text tokens);
  sections = ss;
  sections_are = sections_are;
  names = names;
  assume_first = assume_first;
  assume_always = assume_always;
  guarantee_first = guarantee_first;
  guarantee_always = guarantee_always;
}
