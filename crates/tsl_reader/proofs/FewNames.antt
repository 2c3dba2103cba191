-- A specification has at most one name more than its text has bytes, whatever its definitions expand to.
use Rattle.std.proofs.Common.{◌≡◌, ℕ, suc, ◌≤◌, Bool, true, false, cond, List, [], ◌∷◌, ◌++◌, map, length, refl, ap, sym, ◌∙◌, subst, arith}
use Rattle.std.specs.Prelude.{Option, Some, None, flat_map, option_map}
use Rattle.std.specs.Cmp.{IsEquivalence}
use Rattle.std.specs.List.{AllByRecursion, IsDistinct, list_any}
use Rattle.std.specs.Str.{bytes_eq}
use Rattle.std.specs.Option.{is_some}
use Rattle.std.proofs.lemmas.List.{length-map, map_push}
use Rattle.std.proofs.lemmas.Option.{slice_get-map}
use Rattle.std.proofs.lemmas.Map.Keys.{IsDistinct-push}
use Rattle.std.proofs.lemmas.Map.Made.{length-le_from_is_member}
use Rattle.base_library.proofs.Bytes.{same_bytes, bytes_same}
use Rattle.base_library.proofs.Each.{each_at, each_from_places, each_joined}
use Rattle.base_library.proofs.Passes.{list_any_place, list_any_contained}
use Rattle.base_library.proofs.Places.{contains_at}
use Rattle.tsl_terms.specs.Name.{Name, number_of, question, texts}
use Rattle.tsl_terms.specs.Clashes.{added_unless_found, with_use, with_uses, first_uses}
use Rattle.tsl_terms.specs.SpecTree.{SpecTree}
use Rattle.definition_expansion.proofs.FoundByNumber.{bytes_turned}
use Rattle.name_resolution.specs.WellDeclared.{names_in}
use Rattle.name_resolution.proofs.NameTests.{is_name_any}
use Rattle.tsl_reader.specs.Naming.{Use, question_use, named_by, all_uses}
use Rattle.tsl_reader.specs.Spells.{IsDerived, deepest_level}
use Rattle.tsl_reader.proofs.Counts.{names_in_text}
use Rattle.tsl_reader.proofs.ExpansionsUseTheTextsNames.{Stands, used_texts}

-- what holds of names holds where the names of uses are added to them, each once
pub kept_by_uses : (Q : List Name → Type 0) (P : Name → Type 0) →
    ((names : List Name) (u : Name) → number_of names u.text ≡ None → Q names → P u → Q (names ++ u ∷ [])) →
    (us names : List Name) → Q names → AllByRecursion P us → Q (with_uses names us)
kept_by_uses Q P more [] names holds each = holds
kept_by_uses Q P more (u ∷ us) names holds each =
    kept_by_uses Q P more us (with_use names u) (by (number_of names u.text) refl) each.1
  where
    by : (found : Option ℕ) → number_of names u.text ≡ found → Q (added_unless_found names u found)
    by (Some number) is = holds
    by None is = more names u is holds each.0

texts_equal : IsEquivalence bytes_eq
texts_equal = record {
  refl = λ x. bytes_same x x refl;
  symm = bytes_turned;
  congr = λ x y z same. ap (λ w. bytes_eq w z) (same_bytes x y same);
}

-- texts of which each stands among these, and none twice
abbrev AreSome : List (List ℕ) → List (List ℕ) → Type 0
AreSome zs xs = IsDistinct bytes_eq xs × AllByRecursion (Stands zs) xs

-- names with these texts alone are not more than these
firsts_are_few : (zs : List (List ℕ)) (us : List Name) → AllByRecursion (λ u. Stands zs u.text) us → length (first_uses us) ≤ length zs
unfolding IsDistinct
firsts_are_few zs us stand =
    let some = kept_by_uses (λ names. AreSome zs (texts names)) (λ u. Stands zs u.text) (λ names u none h stands.
    subst (AreSome zs) (sym (map_push (λ n. n.text) names u)) (
      IsDistinct-push texts_equal (texts names) u.text h.0 (sym (is_name_any names u.text) ∙ ap is_some none),
      each_joined (Stands zs) (texts names) (u.text ∷ []) h.1 (stands, tt),
    )) us [] (tt, tt) stand in
    let member : (q : List ℕ) → list_any (bytes_eq q) (texts (first_uses us)) ≡ true → list_any (bytes_eq q) zs ≡ true = λ q there.
    let found = list_any_place (bytes_eq q) (texts (first_uses us)) there in
    let at = each_at (Stands zs) (texts (first_uses us)) found.0 found.1 some.1 found.2 in
    list_any_contained (bytes_eq q) zs found.1 (contains_at zs at.0 found.1 at.1) found.3 in
    omega (arith, length-le_from_is_member texts_equal (texts (first_uses us)) zs some.0 member, length-map (first_uses us) (λ n. n.text))

each_named : (zs : List (List ℕ)) (us : List Use) → AllByRecursion (λ (u : Use). Stands zs u.name.text) us →
    AllByRecursion (λ (n : Name). Stands (question ∷ zs) n.text) (flat_map named_by us)
each_named zs [] stand = tt
each_named zs (u ∷ us) stand = ((suc stand.0.0, stand.0.1), by u.is_tested (each_named zs us stand.1)) where
  by : (asks : Bool) → AllByRecursion (λ (n : Name). Stands (question ∷ zs) n.text) (flat_map named_by us) →
      AllByRecursion (λ (n : Name). Stands (question ∷ zs) n.text) (cond asks (question_use ∷ []) [] ++ flat_map named_by us)
  by true rest = ((0, refl), rest)
  by false rest = rest

-- and so those that get numbers by uses of these texts, but for `?`
named_few : (zs : List (List ℕ)) (us : List Use) → AllByRecursion (λ u. Stands zs u.name.text) us →
    length (first_uses (flat_map named_by us)) ≤ suc (length zs)
named_few zs us stand = firsts_are_few (question ∷ zs) (flat_map named_by us) (each_named zs us stand)

-- there are not more names than uses, and one more for the test of a Boolean signal
pub names_within : (us : List Use) → length (first_uses (flat_map named_by us)) ≤ suc (length us)
names_within us =
    let own = each_from_places (λ u. Stands (map (λ v. v.name.text) us) u.name.text) us (λ i u at.
    (i, slice_get-map (λ v. v.name.text) us i ∙ ap (option_map (λ v. v.name.text)) at)) in
    omega (arith, named_few (map (λ v. v.name.text) us) us own, length-map us (λ v. v.name.text))

pub few_names : (text : List ℕ) (spec : SpecTree) → IsDerived text spec → length spec.names ≤ suc (length text)
few_names text spec d =
    let all = names_in d.declarations in
    let few = named_few (map (λ o. o.text) all) (all_uses d.sections)
    (used_texts d.declarations deepest_level d.expanded d.sections d.named_well d.derives.derived d.expands d.sections_are) in
    omega (arith, ap length d.names, few, length-map all (λ o. o.text), names_in_text text d.tokens d.own d.declarations d.derives)
