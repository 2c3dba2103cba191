-- The names of a text know each use: its number names what it is used as.
use Rattle.std.proofs.Common.{rules, ◌≡◌, ℕ, ◌==◌, Bool, true, false, not, cond, List, [], ◌∷◌, ◌++◌, refl, ap, sym, subst, ◌∙◌}
use Rattle.std.specs.Prelude.{Option, Some, slice_get, flat_map, IsTrue}
use Rattle.std.specs.List.{list_all, AllByRecursion}
use Rattle.std.specs.Option.{option_map_or}
use Rattle.std.proofs.lemmas.Bool.{and_parts, or_left, not-false}
use Rattle.base_library.proofs.Each.{each_left, each_right, each_at, each_from_places}
use Rattle.base_library.proofs.Passes.{passes_at, list_all_joined}
use Rattle.base_library.specs.Numbers.{is_among}
use Rattle.tsl_text.specs.Names.{is_usable}
use Rattle.tsl_terms.specs.declared.names.NameKind.TheVariants.{Predicate}
use Rattle.tsl_terms.specs.Name.{Name, same_kind, question, AreDistinct}
use Rattle.tsl_terms.specs.Clashes.{alike_in_kind, same_arity}
use Rattle.tsl_terms.specs.WellFormed.{name_fits}
use Rattle.tsl_terms.specs.internal.FirstUse.{name_with}
use Rattle.tsl_terms.proofs.KnownNames.{Known, known_of}
use Rattle.tsl_terms.proofs.FirstUses.{first_of, first_some, named_first, FirstAt, first_at}
use Rattle.flow_program.specs.Uses.{ProgramUse, question_entry, entries_of_use, names_after}
use Rattle.flow_program.specs.Rules.{is_unlike}
use Rattle.flow_program.proofs.WithUses.{are_first}

-- what holds of all members of parts holds of those of each part
each_part : {X Y : Type 0} (P : X → Type 0) (f : Y → List X) (ys : List Y) → AllByRecursion P (flat_map f ys) →
    AllByRecursion (λ y. AllByRecursion P (f y)) ys
each_part P f [] each = tt
each_part P f (y ∷ ys) each = (each_left P (f y) (flat_map f ys) each, each_part P f ys (each_right P (f y) (flat_map f ys) each))

-- names that get numbers may be written
pub named_fit : (us : List ProgramUse) → IsTrue (list_all (λ u. is_usable u.name.text) us) →
    IsTrue (list_all name_fits (flat_map entries_of_use us))
named_fit [] all = refl
named_fit (u ∷ us) all =
    let parts = and_parts (is_usable u.name.text) (list_all (λ v. is_usable v.name.text) us) all in
    by u.is_tested (or_left (is_usable u.name.text) _ parts.0) (named_fit us parts.1)
  where
    by : (t : Bool) → name_fits u.name ≡ true → IsTrue (list_all name_fits (flat_map entries_of_use us)) →
        IsTrue (list_all name_fits (u.name ∷ (cond t (question_entry ∷ []) [] ++ flat_map entries_of_use us)))
    by true fits h = search rules
    by false fits h = search rules

-- what may be written and is `?` is the test of a signal
question_like : (f : Name) → f.text ≡ question → IsTrue (name_fits f) →
    (same_kind f.kind Predicate ≡ true) × ((f.arity == 1) ≡ true)
question_like f is fits =
    let never : is_usable f.text ≡ false = ap is_usable is in
    (search rules, search rules)

module _ (given : List Name) (distinct : AreDistinct given) (us : List ProgramUse) where
  abbrev all : List Name
  all = given ++ flat_map entries_of_use us

  pub named_is_first : (text : List ℕ) → name_with (names_after given us) text ≡ first_of all text
  named_is_first text = ap (λ names. name_with names text) (are_first given (flat_map entries_of_use us) distinct) ∙ named_first all text

  -- the names that get numbers by a use have a first one of their text
  abbrev HasFirst : Name → Type 0
  HasFirst n = (f : Name) × (first_of all n.text ≡ Some f)

  firsts : (at : ℕ) (u : ProgramUse) → slice_get us at ≡ Some u → AllByRecursion HasFirst (entries_of_use u)
  firsts at u =
      each_at (λ v. AllByRecursion HasFirst (entries_of_use v)) us at u (each_part HasFirst entries_of_use us
      (each_right HasFirst given (flat_map entries_of_use us) (each_from_places HasFirst all (first_some all))))

  alike_first : (alike : Name → Name → Bool) (u : ProgramUse) (f : Name) → name_with (names_after given us) u.name.text ≡ Some f →
      is_unlike alike (names_after given us) u ≡ false → alike f u.name ≡ true
  alike_first alike u f found like =
      not-false (alike f u.name) (sym (ap (λ o. option_map_or (λ n. not (alike n u.name)) o false) found) ∙ like)

  pub known_name : (at : ℕ) (u : ProgramUse) → slice_get us at ≡ Some u → is_unlike alike_in_kind (names_after given us) u ≡ false →
      is_unlike same_arity (names_after given us) u ≡ false → Known (names_after given us) u.name
  known_name at u there kinds arities =
      let first = (firsts at u there).0 in
      let stands : FirstAt all u.name.text first.0 = first_at all u.name.text first.0 first.1 in
      let found : name_with (names_after given us) u.name.text ≡ Some first.0 = named_is_first u.name.text ∙ first.1 in
      known_of (names_after given us) u.name first.0 found (sym stands.same)
      (alike_first alike_in_kind u first.0 found kinds) (alike_first same_arity u first.0 found arities)

  pub known_question : IsTrue (list_all name_fits given) → IsTrue (list_all (λ u. is_usable u.name.text) us) →
      (at : ℕ) (u : ProgramUse) → slice_get us at ≡ Some u → IsTrue u.is_tested → Known (names_after given us) question_entry
  known_question fit usable at u there asks =
      let first = (subst (λ t. AllByRecursion HasFirst (cond t (question_entry ∷ []) [])) asks (firsts at u there).1).0 in
      let stands : FirstAt all question first.0 = first_at all question first.0 first.1 in
      let fits : IsTrue (name_fits first.0) = passes_at name_fits all stands.at first.0
      (list_all_joined name_fits given (flat_map entries_of_use us) fit (named_fit us usable)) stands.there in
      let entry = question_like first.0 (sym stands.same) fits in
      known_of (names_after given us) question_entry first.0 (named_is_first question ∙ first.1) (sym stands.same) entry.0 entry.1

-- the names know a use, the test of a signal that is tested, and a signal that is read as one of these
pub record KnownUse (names : List Name) (readable : List ℕ) (u : ProgramUse) : Type 0 where
  pub name : Known names u.name
  pub usable : is_usable u.name.text ≡ true
  pub asked : IsTrue u.is_tested → Known names question_entry
  pub read : IsTrue u.is_read → is_among readable name.number ≡ true
