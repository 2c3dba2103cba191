-- Definitions by their names and by their numbers, where no name is defined twice, and the names that formulas use.
use Rattle.std.proofs.Common.{◌≡◌, ◌∙◌, ℕ, zero, suc, Bool, true, false, ◌||◌, List, [], ◌∷◌, ◌++◌, map, Option, Some, None, slice_get}
use Rattle.std.proofs.Common.{refl, sym, ap, arith}
use Rattle.std.specs.Prelude.{if◌then◌else◌, option_map}
use Rattle.std.specs.List.{list_any}
use Rattle.std.specs.Str.{bytes_eq}
use Rattle.std.proofs.lemmas.Bool.{or_right, false≢true}
use Rattle.std.proofs.lemmas.List.{map-append}
use Rattle.std.proofs.lemmas.Option.{none-some, same_Some, slice_get-map}
use Rattle.std.proofs.lemmas.Slice.Eq.{bytes_eq-Decides}
use Rattle.base_library.proofs.Places.{slice_get_mapped}
use Rattle.tsl_terms.specs.Name.{Name, AreDistinct}
use Rattle.spec_syntax.specs.Syntax.{FormulaSyntax, truth, falsehood, bare, tested, updated, grouped, under, between}
use Rattle.spec_syntax.specs.Syntax.{joined, FormulasSyntax, no_formulas, more_formulas, Definition}
use Rattle.definition_expansion.specs.declared.definitions.ReadDefinition.{ReadDefinition}
use Rattle.definition_expansion.specs.Expansion.{passed_names}
use Rattle.definition_expansion.specs.UseLevels.{At, level_of_right, test_at, uses_at, members_uses_at}
use Rattle.definition_expansion.specs.DefinitionView.{definition_of, named_in, AreHeads}
use Rattle.definition_expansion.specs.Uses.{stands_in}
use Rattle.definition_expansion.specs.internal.UseNumbers.{name_of_test, used_names, members_used_names}

-- ---- the names that a formula uses, at any level

abbrev names_at : List At → List (List ℕ)
names_at us = map (λ u. u.name) us

test_names : (level : ℕ) (p : List ℕ) (o : Option (List (List ℕ))) → names_at (test_at level p o) ≡ name_of_test p o
test_names level p None = refl
test_names level p (Some ys) = refl

both_names : (us vs : List At) (xs ys : List (List ℕ)) → names_at us ≡ xs → names_at vs ≡ ys → names_at (us ++ vs) ≡ xs ++ ys
both_names us vs xs ys h k = map-append (λ u. u.name) us vs ∙ (λ i. h i ++ k i)

mutual
  pub used_at : (level : ℕ) (a : FormulaSyntax) → names_at (uses_at level a) ≡ used_names a
  used_at level truth = refl
  used_at level falsehood = refl
  used_at level (bare x) = refl
  used_at level (tested p ts) = test_names level p (passed_names ts)
  used_at level (updated x t) = refl
  used_at level (grouped a) = used_at (suc level) a
  used_at level (under op a) = used_at (suc level) a
  used_at level (between op a b) =
      both_names (uses_at level a) (uses_at (level_of_right op level) b) (used_names a) (used_names b) (used_at level a)
      (used_at (level_of_right op level) b)
  used_at level (joined op fs) = members_used_at level fs

  members_used_at : (level : ℕ) (fs : FormulasSyntax) → names_at (members_uses_at level fs) ≡ members_used_names fs
  members_used_at level no_formulas = refl
  members_used_at level (more_formulas f fs) =
      both_names (uses_at level f) (members_uses_at level fs) (used_names f) (members_used_names fs) (used_at level f)
      (members_used_at level fs)

abbrev is_name_in : List (List ℕ) → List ℕ → Bool
is_name_in names x = list_any (λ y. bytes_eq y x) names

pub stands_is : (a : FormulaSyntax) (x : List ℕ) → stands_in a x ≡ is_name_in (used_names a) x
stands_is a x = ap (λ names. is_name_in names x) (used_at 0 a)

-- one name among others, by its place
pub name_at_place : (names : List (List ℕ)) (k : ℕ) (x : List ℕ) → slice_get names k ≡ Some x → is_name_in names x ≡ true
name_at_place [] k x at = absurd (none-some x at)
name_at_place (y ∷ names) zero x at =
    ap (λ b. b || is_name_in names x) ((bytes_eq-Decides y x).1 (same_Some y x at))
name_at_place (y ∷ names) (suc k) x at = or_right (bytes_eq y x) (is_name_in names x) (name_at_place names k x at)

pub place_of_name : (names : List (List ℕ)) (x : List ℕ) → is_name_in names x ≡ true → (k : ℕ) × (slice_get names k ≡ Some x)
place_of_name [] x h = absurd (false≢true h)
place_of_name (y ∷ names) x h = by (bytes_eq y x) refl h (place_of_name names x)
  where
    by : (b : Bool) → bytes_eq y x ≡ b → (b || is_name_in names x) ≡ true →
        (is_name_in names x ≡ true → (k : ℕ) × (slice_get names k ≡ Some x)) → (k : ℕ) × (slice_get (y ∷ names) k ≡ Some x)
    by true same k rest = (0, ap Some ((bytes_eq-Decides y x).0 same))
    by false other k rest = (suc (rest k).0, (rest k).1)

-- ---- definitions

-- the definition of a name has that name, and a number
pub named_at : (ds : List Definition) (x : List ℕ) (d : Definition) → named_in ds x ≡ Some d →
    (i : ℕ) × (slice_get ds i ≡ Some d) × (d.name ≡ x)
named_at [] x d is = absurd (none-some d is)
named_at (e ∷ ds) x d is = by (bytes_eq x e.name) refl is (named_at ds x d)
  where
    by : (b : Bool) → bytes_eq x e.name ≡ b → (if b then Some e else named_in ds x) ≡ Some d →
        (named_in ds x ≡ Some d → (i : ℕ) × (slice_get ds i ≡ Some d) × (d.name ≡ x)) →
        (i : ℕ) × (slice_get (e ∷ ds) i ≡ Some d) × (d.name ≡ x)
    by true same found rest =
        let e_is : e ≡ d = same_Some e d found in
        (0, found, ap (λ f. f.name) (sym e_is) ∙ sym ((bytes_eq-Decides x e.name).0 same))
    by false other found rest = (suc (rest found).0, (rest found).1, (rest found).2)

-- no name is defined twice
abbrev pub AreApart : List Definition → Type 0
AreApart ds = (i j : ℕ) (d e : Definition) → slice_get ds i ≡ Some d → slice_get ds j ≡ Some e → d.name ≡ e.name → i ≡ j

-- each definition is that of its name
pub named_by_number : (ds : List Definition) (i : ℕ) (d : Definition) → AreApart ds → slice_get ds i ≡ Some d →
    named_in ds d.name ≡ Some d
named_by_number [] i d apart at = absurd (none-some d at)
named_by_number (e ∷ ds) zero d apart at =
    let is : e ≡ d = same_Some e d at in
    ap (λ b. if b then Some e else named_in ds d.name) ((bytes_eq-Decides d.name e.name).1 (ap (λ f. f.name) (sym is))) ∙ at
named_by_number (e ∷ ds) (suc i) d apart at = by (bytes_eq d.name e.name) refl
    (named_by_number ds i d (λ k l f g at_k at_l same. fewer k l (apart (suc k) (suc l) f g at_k at_l same)) at)
  where
    fewer : (k l : ℕ) → suc k ≡ suc l → k ≡ l
    fewer k l same = omega (arith, same)

    by : (b : Bool) → bytes_eq d.name e.name ≡ b → named_in ds d.name ≡ Some d → (if b then Some e else named_in ds d.name) ≡ Some d
    by true same rest =
        let clash : suc i ≡ 0 = apart (suc i) 0 d e at refl ((bytes_eq-Decides d.name e.name).0 same) in
        absurd (omega (arith, clash))
    by false other rest = rest

-- ---- heads

pub text_at : (heads : List Name) (ds : List ReadDefinition) (i : ℕ) (d : Definition) → AreHeads heads ds →
    slice_get (map definition_of ds) i ≡ Some d → (n : Name) × (slice_get heads i ≡ Some n) × (n.text ≡ d.name)
text_at heads ds i d are at =
    slice_get_mapped (λ n. n.text) heads i d.name
    (ap (λ xs. slice_get xs i) are ∙ slice_get-map (λ e. e.name) (map definition_of ds) i ∙ ap (option_map (λ e. e.name)) at)

pub are_apart : (heads : List Name) (ds : List ReadDefinition) → AreHeads heads ds → AreDistinct heads → AreApart (map definition_of ds)
are_apart heads ds are distinct i j d e at_i at_j same =
    let m = text_at heads ds i d are at_i in
    let n = text_at heads ds j e are at_j in
    distinct i j m.0 n.0 m.1 n.1 (m.2 ∙ same ∙ sym n.2)
