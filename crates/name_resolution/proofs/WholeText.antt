-- A text of which no name is wrong where it stands.
use Rattle.std.proofs.Common.{◌≡◌, ℕ, Bool, true, false, cond, List, [], ◌∷◌, ◌++◌, map, refl, ap, sym, ◌∙◌, subst, append_assoc}
use Rattle.std.specs.Prelude.{◌||◌, Option, Some, None, option_map, position, if◌then◌else◌}
use Rattle.std.specs.List.{list_any, AllByRecursion}
use Rattle.std.specs.Option.{is_some}
use Rattle.std.specs.Str.{bytes_eq}
use Rattle.std.proofs.lemmas.List.{append-nil}
use Rattle.std.proofs.lemmas.Bool.{or_parts}
use Rattle.std.proofs.lemmas.Iterator.Adapters.{position_from-zero}
use Rattle.base_library.proofs.Bytes.{same_bytes}
use Rattle.base_library.proofs.Options.{none_is}
use Rattle.base_library.proofs.Each.{each_left, each_right, each_both, each_weaker}
use Rattle.tsl_terms.specs.Name.{Name, number_of, texts}
use Rattle.tsl_terms.specs.Clashes.{added_unless_found, with_use, with_uses, first_uses, alike_in_kind, same_arity}
use Rattle.tsl_terms.proofs.FirstUses.{first_of, named_first, named_is}
use Rattle.spec_syntax.specs.Syntax.{SectionSyntax, Definition, Declaration, the_section, the_definition}
use Rattle.definition_expansion.specs.DefinitionView.{named_in}
use Rattle.definition_expansion.specs.WellUsed.{IsFree, AreFree, UsesWell, AreRanked}
use Rattle.name_resolution.specs.declared.occurrence.Role.TheVariants.{Head, Redefined, Parameter}
use Rattle.name_resolution.specs.Heads.{head_of, definitions_in, heads_in, is_name, is_among}
use Rattle.name_resolution.specs.Occurrences.{Occurrence, of_section, of_body, formula_occurrences, section_occurrences, is_repeated}
use Rattle.name_resolution.specs.Occurrences.{parameter_name, definition_occurrences, occurrences_behind, occurrences}
use Rattle.name_resolution.specs.Faults.{is_redefined, is_deep_use, name_with, is_unlike_first, is_unlike_name, has_kind_fault, has_arity_fault}
use Rattle.name_resolution.specs.WellDeclared.{UsesAreBelow, RanksFall, IsWellDeclared, is_used_well, UsesFit, IsPlainlyUsed}
use Rattle.name_resolution.proofs.NameTests.{any_from, is_name_any}
use Rattle.name_resolution.proofs.EachName.{from_formulas, from_declarations}
use Rattle.name_resolution.proofs.UsedWell.{well_from, uses_well}
use Rattle.name_resolution.proofs.DeepUses.{IsShallow, uses_within}
use Rattle.name_resolution.proofs.PlainUses.{Occurs, IsRight, plain_there, section_plain, body_plain}

-- ---- nowhere

none_of : {X : Type 0} (p : X → Bool) (xs : List X) → list_any p xs ≡ false → AllByRecursion (λ x. p x ≡ false) xs
none_of p [] h = tt
none_of p (x ∷ xs) h =
    let parts = or_parts (p x) (list_any p xs) h in
    (parts.0, none_of p xs parts.1)

-- what has no place passes nowhere
pub nowhere : {X : Type 0} (p : X → Bool) (xs : List X) → position p xs ≡ None → AllByRecursion (λ x. p x ≡ false) xs
nowhere p xs h = none_of p xs (sym (ap is_some (position_from-zero p xs) ∙ any_from p 0 xs) ∙ ap is_some h)

-- where none has a fault each name is right
all_right : (heads : List Name) (all : List Occurrence) → position (has_kind_fault all) all ≡ None →
    position (has_arity_fault heads all) all ≡ None → AllByRecursion (IsRight heads all) all
all_right heads all kinds arities =
    each_both (λ o. (has_kind_fault all o ≡ false) × (has_arity_fault heads all o ≡ false)) (Occurs all) (IsRight heads all)
    (λ o none occurs. record {
      well = well_from o.role o (is_unlike_name same_arity heads o) (is_unlike_first alike_in_kind all o)
          (is_unlike_first same_arity all o) none.0 none.1;
      kind = none.0;
      occurs = occurs;
    }) all
    (each_both _ _ _ (λ o k a. (k, a)) all (nowhere (has_kind_fault all) all kinds) (nowhere (has_arity_fault heads all) all arities))
    (plain_there all)

-- ---- the defined names of a text

named_head : (ds : List Declaration) (x : List ℕ) → first_of (heads_in ds) x ≡ option_map head_of (named_in (definitions_in ds) x)
named_head [] x = refl
named_head (the_section s ∷ ds) x = named_head ds x
named_head (the_definition d ∷ ds) x = by (bytes_eq x d.name) (named_head ds x) where
  by : (b : Bool) → first_of (heads_in ds) x ≡ option_map head_of (named_in (definitions_in ds) x) →
      cond b (Some (head_of d)) (first_of (heads_in ds) x) ≡ option_map head_of (if b then Some d else named_in (definitions_in ds) x)
  by true h = refl
  by false h = h

among_first : (names : List Name) (x : List ℕ) → is_among (texts names) x ≡ is_some (first_of names x)
among_first [] x = refl
among_first (n ∷ names) x = by (bytes_eq x n.text) (among_first names x) where
  by : (b : Bool) → is_among (texts names) x ≡ is_some (first_of names x) →
      (b || is_among (texts names) x) ≡ is_some (cond b (Some n) (first_of names x))
  by true h = refl
  by false h = h

some_mapped : {X Y : Type 0} (f : X → Y) (found : Option X) → is_some (option_map f found) ≡ is_some found
some_mapped f None = refl
some_mapped f (Some x) = refl

-- the names of a text by first appearance are found as its definitions are
pub heads_are : (ds : List Declaration) (x : List ℕ) → name_with (first_uses (heads_in ds)) x ≡ option_map head_of (named_in (definitions_in ds) x)
heads_are ds x = named_first (heads_in ds) x ∙ named_head ds x

pub heads_same : (ds : List Declaration) (x : List ℕ) → is_name (first_uses (heads_in ds)) x ≡ is_some (named_in (definitions_in ds) x)
heads_same ds x =
    is_name_any (first_uses (heads_in ds)) x ∙ among_first (first_uses (heads_in ds)) x
    ∙ ap is_some (sym (named_is (first_uses (heads_in ds)) x) ∙ heads_are ds x) ∙ some_mapped head_of (named_in (definitions_in ds) x)

abbrev pub Stands : Occurrence → Type 0
Stands o = is_redefined o.role ≡ false

behind : (heads before : List Name) (ds : List Declaration) → AllByRecursion Stands (occurrences_behind heads before ds) →
    with_uses before (heads_in ds) ≡ before ++ heads_in ds
behind heads before [] h = sym (append-nil before)
behind heads before (the_section s ∷ ds) h =
    behind heads before ds (each_right Stands (section_occurrences heads s) (occurrences_behind heads before ds) h)
behind heads before (the_definition d ∷ ds) h =
    let own = definition_occurrences heads before d in
    let rest = occurrences_behind heads (with_use before (head_of d)) ds in
    let added : with_use before (head_of d) ≡ before ++ head_of d ∷ [] = ap (added_unless_found before (head_of d)) (none_is (number_of before d.name)
    (new (is_name before d.name) (each_left Stands own rest h).0)) in
    behind heads (with_use before (head_of d)) ds (each_right Stands own rest h)
    ∙ ap (λ ns. ns ++ heads_in ds) added ∙ append_assoc before (head_of d ∷ []) (heads_in ds)
  where
    new : (b : Bool) → is_redefined (if b then Redefined else Head) ≡ false → b ≡ false
    new true g = g
    new false g = refl

-- where no name is redefined, the defined names are those of the definitions, one after another
pub heads_stand : (ds : List Declaration) (heads : List Name) → position (λ o. is_redefined o.role) (occurrences heads ds) ≡ None →
    first_uses (heads_in ds) ≡ heads_in ds
heads_stand ds heads h = behind heads [] ds (nowhere (λ o. is_redefined o.role) (occurrences heads ds) h)

-- ---- each declaration

module _ (named : List ℕ → Option Definition) (rank : List ℕ → ℕ) (below : ℕ) (heads : List Name) (same : (x : List ℕ) → is_name heads x ≡ is_some (named x)) (arities : (x : List ℕ) → name_with heads x ≡ option_map head_of (named x)) where
  -- names that are right and stand
  abbrev IsGood : Occurrence → Type 0
  IsGood o = (is_used_well heads o ≡ true) × Stands o

  abbrev FallsWell : Declaration → Type 0
  FallsWell d = RanksFall named rank below d → IsWellDeclared named rank below d

  section_well : (s : SectionSyntax) → AllByRecursion IsGood (section_occurrences heads s) → FallsWell (the_section s)
  section_well s h falls =
      each_both (λ f. UsesAreBelow named rank below f → UsesWell named rank below f) (UsesAreBelow named rank below) (UsesWell named rank below)
      (λ f well fall. well fall) s.formulas
      (from_formulas (of_section heads) IsGood _
      (λ f k. uses_well named rank heads (of_section heads) same arities below 0 f (each_weaker _ _ (λ o g. g.0) _ k)) s.formulas h) falls

  free_parameter : (x : List ℕ) (twice : Bool) (b : Bool) → is_name heads x ≡ b →
      is_redefined (if b || twice then Redefined else Parameter) ≡ false → IsFree named rank x
  free_parameter x twice true is h = cc
  free_parameter x twice false is h = none_is (named x) (sym (same x) ∙ is)

  free_parameters : (is_twice : List ℕ → Bool) (ps : List (List ℕ)) →
      AllByRecursion IsGood (map (parameter_name (is_name heads) is_twice) ps) → AreFree named rank ps
  free_parameters is_twice [] h = tt
  free_parameters is_twice (p ∷ ps) h = (free_parameter p (is_twice p) (is_name heads p) refl h.0.1, free_parameters is_twice ps h.1)

  definition_well : (before : List Name) (d : Definition) → AllByRecursion IsGood (definition_occurrences heads before d) →
      FallsWell (the_definition d)
  definition_well before d h falls =
      let parameters = map (parameter_name (is_name heads) (is_repeated d.parameters)) d.parameters in
      let body = formula_occurrences (of_body heads d.parameters) 0 d.body in (
        uses_well named rank heads (of_body heads d.parameters) same arities (rank d.name) 0 d.body
            (each_weaker _ _ (λ o g. g.0) body (each_right IsGood parameters body h.1)) falls,
        free_parameters (is_repeated d.parameters) d.parameters (each_left IsGood parameters body h.1),
      )

  declarations_well : (ds : List Declaration) → AllByRecursion IsGood (occurrences heads ds) → AllByRecursion (RanksFall named rank below) ds →
      AllByRecursion (IsWellDeclared named rank below) ds
  declarations_well ds h falls =
      each_both FallsWell (RanksFall named rank below) (IsWellDeclared named rank below) (λ d well fall. well fall) ds
      (from_declarations heads IsGood FallsWell section_well definition_well [] ds h) falls

-- where no name is wrong and ranks fall along uses, each declaration uses defined names well
pub text_well : (ds : List Declaration) (rank : List ℕ → ℕ) (below : ℕ) →
    position (λ o. is_redefined o.role) (occurrences (first_uses (heads_in ds)) ds) ≡ None →
    position (has_kind_fault (occurrences (first_uses (heads_in ds)) ds)) (occurrences (first_uses (heads_in ds)) ds) ≡ None →
    position (has_arity_fault (first_uses (heads_in ds)) (occurrences (first_uses (heads_in ds)) ds)) (occurrences (first_uses (heads_in ds)) ds)
    ≡ None →
    AllByRecursion (RanksFall (named_in (definitions_in ds)) rank below) ds →
    AllByRecursion (IsWellDeclared (named_in (definitions_in ds)) rank below) ds
text_well ds rank below redefined kinds arities falls =
    let heads = first_uses (heads_in ds) in
    let all = occurrences heads ds in
    declarations_well (named_in (definitions_in ds)) rank below heads (heads_same ds) (heads_are ds) ds
    (each_both (IsRight heads all) Stands _ (λ o right stands. (right.well, stands)) all (all_right heads all kinds arities)
    (nowhere (λ o. is_redefined o.role) all redefined)) falls

-- the definition of a name is one of those of the text
definition_found : (named : List ℕ → Option Definition) (rank : List ℕ → ℕ) (below : ℕ) (ds : List Declaration) (x : List ℕ) (d : Definition) →
    named_in (definitions_in ds) x ≡ Some d → AllByRecursion (IsWellDeclared named rank below) ds →
    UsesWell named rank (rank x) d.body × AreFree named rank d.parameters
definition_found named rank below [] x d h each = cc
definition_found named rank below (the_section s ∷ ds) x d h each = definition_found named rank below ds x d h each.1
definition_found named rank below (the_definition e ∷ ds) x d h each = by (λ g. definition_found named rank below ds x d g each.1) (bytes_eq x e.name) refl h where
  by : (named_in (definitions_in ds) x ≡ Some d → UsesWell named rank (rank x) d.body × AreFree named rank d.parameters) →
      (b : Bool) → bytes_eq x e.name ≡ b → (if b then Some e else named_in (definitions_in ds) x) ≡ Some d →
      UsesWell named rank (rank x) d.body × AreFree named rank d.parameters
  by rest true is g =
      let one : e ≡ d = cc in
      subst (λ (f : Definition). UsesWell named rank (rank x) f.body × AreFree named rank f.parameters) one
      (subst (λ (y : List ℕ). UsesWell named rank (rank y) e.body × AreFree named rank e.parameters) (sym (same_bytes x e.name is)) each.0)
  by rest false is g = rest g

pub text_ranked : (ds : List Declaration) (rank : List ℕ → ℕ) (below : ℕ) →
    AllByRecursion (IsWellDeclared (named_in (definitions_in ds)) rank below) ds → AreRanked (named_in (definitions_in ds)) rank
text_ranked ds rank below each = record {
  bodies = λ x d found. (definition_found (named_in (definitions_in ds)) rank below ds x d found each).0;
  parameters = λ x d found. (definition_found (named_in (definitions_in ds)) rank below ds x d found each).1;
}

-- ---- levels

-- where no name is of a wrong kind or arity and no use is too deep, the uses in sections fit
pub text_fits : (ds : List Declaration) (heads : List Name) (levels : List ℕ) →
    position (has_kind_fault (occurrences heads ds)) (occurrences heads ds) ≡ None →
    position (has_arity_fault heads (occurrences heads ds)) (occurrences heads ds) ≡ None →
    position (is_deep_use heads levels) (occurrences heads ds) ≡ None → AllByRecursion (UsesFit heads levels) ds
text_fits ds heads levels kinds arities deep =
    let all = occurrences heads ds in
    from_declarations heads (IsShallow heads levels) (UsesFit heads levels)
    (λ s. from_formulas (of_section heads) (IsShallow heads levels) _ (uses_within heads levels 0) s.formulas) (λ before d h. tt) [] ds
    (each_both (λ o. is_deep_use heads levels o ≡ false) (IsRight heads all) (IsShallow heads levels) (λ o shallow right. (shallow, right.well))
    all (nowhere (is_deep_use heads levels) all deep) (all_right heads all kinds arities))

-- ---- plain names

-- where no name is of a wrong kind or arity, each plain name is used as it occurs
pub text_plain : (ds : List Declaration) (rank : List ℕ → ℕ) →
    position (has_kind_fault (occurrences (first_uses (heads_in ds)) ds)) (occurrences (first_uses (heads_in ds)) ds) ≡ None →
    position (has_arity_fault (first_uses (heads_in ds)) (occurrences (first_uses (heads_in ds)) ds)) (occurrences (first_uses (heads_in ds)) ds)
    ≡ None →
    AllByRecursion (IsPlainlyUsed (occurrences (first_uses (heads_in ds)) ds) (named_in (definitions_in ds)) rank) ds
text_plain ds rank kinds arities =
    let heads = first_uses (heads_in ds) in
    let all = occurrences heads ds in
    let named = named_in (definitions_in ds) in
    from_declarations heads (IsRight heads all) (IsPlainlyUsed all named rank)
    (λ s. from_formulas (of_section heads) (IsRight heads all) _ (section_plain named rank heads (heads_same ds) (heads_are ds) all) s.formulas)
    (λ before d h. body_plain named rank heads (heads_same ds) (heads_are ds) all d.parameters d.body
    (each_right (IsRight heads all) (map (parameter_name (is_name heads) (is_repeated d.parameters)) d.parameters) _ h.1))
    [] ds (all_right heads all kinds arities)
