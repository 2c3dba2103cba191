-- What is found by a number in a list of names: a definition, and the name that is passed for a parameter.
use Rattle.std.proofs.Common.{◌≡◌, ℕ, suc, ◌+◌, ◌<◌, ◌≤◌, Bool, true, false, cond, List, [], ◌∷◌, length, get_or, map, Option, Some, None, refl, ap, sym, ◌∙◌, arith}
use Rattle.std.specs.Prelude.{option_map, option_and_then, slice_get, IfSome, MatchOption, if◌then◌else◌}
use Rattle.std.specs.List.{position_from}
use Rattle.std.specs.Option.{option_map_or}
use Rattle.std.specs.Borrow.{Bor}
use Rattle.std.specs.Str.{bytes_eq}
use Rattle.std.proofs.lemmas.Iterator.Adapters.{position_from-zero}
use Rattle.std.proofs.lemmas.Option.{slice_get-map, slice_get_read}
use Rattle.base_library.proofs.Booleans.{same_tests}
use Rattle.base_library.proofs.Bytes.{bytes_turned as turned}
use Rattle.tsl_terms.specs.Name.{Name, number_of, texts}
use Rattle.definition_expansion.specs.declared.definitions.ReadDefinition.{ReadDefinition}
use Rattle.spec_syntax.specs.Syntax.{Definition}
use Rattle.definition_expansion.specs.Expansion.{passed}
use Rattle.definition_expansion.specs.internal.Standing.{names_now}
use Rattle.definition_expansion.specs.DefinitionView.{definition_of, named_in, definitions_of, AreHeads}

pub bytes_turned : (x y : List ℕ) → bytes_eq x y ≡ bytes_eq y x
bytes_turned x y = same_tests (bytes_eq x y) (bytes_eq y x) (turned x y) (turned y x)

module _ {K : Type 0} (test : K → Bool) where
  pub further_on : (i : ℕ) (xs : List K) → position_from test (suc i) xs ≡ option_map suc (position_from test i xs)
  further_on i [] = refl
  further_on i (x ∷ xs) = by (let e : suc i + 1 ≡ suc (i + 1) = omega arith in ap (λ n. position_from test n xs) e
      ∙ further_on (i + 1) xs) (test x)
    where
      by : position_from test (suc i + 1) xs ≡ option_map suc (position_from test (i + 1) xs) → (b : Bool) →
          cond b (Some (suc i)) (position_from test (suc i + 1) xs) ≡ option_map suc (cond b (Some i) (position_from test (i + 1) xs))
      by h true = refl
      by h false = h

at_front : {X : Type 0} (x : X) (xs : List X) (b : Bool) (found : Option ℕ) →
    option_and_then (slice_get (x ∷ xs)) (cond b (Some 0) (option_map suc found)) ≡ cond b (Some x) (option_and_then (slice_get xs) found)
at_front x xs true found = refl
at_front x xs false None = refl
at_front x xs false (Some k) = refl

-- ---- definitions

found_from : (x : List ℕ) (ds : List Definition) →
    option_and_then (slice_get ds) (position_from (bytes_eq x) 0 (map (λ d. d.name) ds)) ≡ named_in ds x
found_from x [] = refl
found_from x (d ∷ ds) =
    ap (λ o. option_and_then (slice_get (d ∷ ds)) (cond (bytes_eq x d.name) (Some 0) o)) (further_on (bytes_eq x) 0 (map (λ e. e.name) ds))
    ∙ at_front d ds (bytes_eq x d.name) (position_from (bytes_eq x) 0 (map (λ e. e.name) ds))
    ∙ ap (cond (bytes_eq x d.name) (Some d)) (found_from x ds)

-- the definition of a name stands where its name stands among the heads
pub found_by_number : (heads : List Name) (ds : List ReadDefinition) (x : List ℕ) → AreHeads heads ds →
    option_and_then (slice_get (map definition_of ds)) (number_of heads x) ≡ definitions_of ds x
found_by_number heads ds x are =
    ap (option_and_then (slice_get (map definition_of ds)))
    (position_from-zero (bytes_eq x) (texts heads) ∙ ap (position_from (bytes_eq x) 0) are)
    ∙ found_from x (map definition_of ds)

pub numbered_definition : (heads : List Name) (ds : List ReadDefinition) (x : List ℕ) (k : ℕ) (o : Option ReadDefinition) →
    AreHeads heads ds → number_of heads x ≡ Some k → slice_get ds k ≡ o → definitions_of ds x ≡ option_map definition_of o
numbered_definition heads ds x k o are is there =
    sym (found_by_number heads ds x are) ∙ ap (option_and_then (slice_get (map definition_of ds))) is
    ∙ slice_get-map definition_of ds k ∙ ap (option_map definition_of) there

pub got_definition : (heads : List Name) (ds : List ReadDefinition) (x : List ℕ) (k : ℕ) (o : Option (Bor ReadDefinition))
    (P : Bor ReadDefinition → Type 0) → AreHeads heads ds → number_of heads x ≡ Some k → IfSome o (λ d. d.now ≡ get_or ds k d.now) →
    MatchOption o (length ds ≤ k) (λ d. (k < length ds) × P d) → IfSome o (λ d. definitions_of ds x ≡ Some (definition_of d.now))
got_definition heads ds x k None P are is read past = tt
got_definition heads ds x k (Some d) P are is read within =
    numbered_definition heads ds x k (Some d.now) are is (slice_get_read ds (length ds) k d.now refl within.0 read)

pub no_definition : (heads : List Name) (ds : List ReadDefinition) (x : List ℕ) → AreHeads heads ds → number_of heads x ≡ None →
    definitions_of ds x ≡ None
no_definition heads ds x are is = sym (found_by_number heads ds x are) ∙ ap (option_and_then (slice_get (map definition_of ds))) is

-- ---- parameters

nothing_there : (place : Option ℕ) → option_and_then (slice_get {X = List ℕ} []) place ≡ None
nothing_there None = refl
nothing_there (Some k) = refl

passed_from : (ps ys : List (List ℕ)) (x : List ℕ) →
    option_map_or (λ y. y) (option_and_then (slice_get ys) (position_from (bytes_eq x) 0 ps)) x ≡ passed ps ys x
passed_from [] ys x = refl
passed_from (p ∷ ps) [] x = ap (λ o. option_map_or (λ y. y) o x) (nothing_there (position_from (bytes_eq x) 0 (p ∷ ps)))
passed_from (p ∷ ps) (y ∷ ys) x =
    ap (λ o. option_map_or (λ y. y) (option_and_then (slice_get (y ∷ ys)) (cond (bytes_eq x p) (Some 0) o)) x)
    (further_on (bytes_eq x) 0 ps)
    ∙ ap (λ o. option_map_or (λ y. y) o x) (at_front y ys (bytes_eq x p) (position_from (bytes_eq x) 0 ps))
    ∙ by (bytes_eq x p) (passed_from ps ys x)
    ∙ ap (λ b. if b then y else passed ps ys x) (bytes_turned x p)
  where
    by : (b : Bool) →
        option_map_or (λ y. y) (option_and_then (slice_get ys) (position_from (bytes_eq x) 0 ps)) x ≡ passed ps ys x →
        option_map_or (λ y. y) (cond b (Some y) (option_and_then (slice_get ys) (position_from (bytes_eq x) 0 ps))) x
        ≡ (if b then y else passed ps ys x)
    by true h = refl
    by false h = h

-- what a name stands for is passed at its number among the parameters
pub passed_by_number : (parameters : List Name) (ys : List (List ℕ)) (x : List ℕ) →
    option_map_or (λ y. y) (option_and_then (slice_get ys) (number_of parameters x)) x ≡ passed (texts parameters) ys x
passed_by_number parameters ys x =
    ap (λ o. option_map_or (λ y. y) (option_and_then (slice_get ys) o) x) (position_from-zero (bytes_eq x) (texts parameters))
    ∙ passed_from (texts parameters) ys x

pub numbered_name : (parameters : List Name) (names : List (Bor (List ℕ))) (x : List ℕ) (k : ℕ) (o : Option (Bor (List ℕ))) →
    number_of parameters x ≡ Some k → slice_get names k ≡ o →
    option_map_or (λ n. n.now) o x ≡ passed (texts parameters) (names_now names) x
numbered_name parameters names x k o is there =
    by o ∙ ap (λ found. option_map_or (λ y. y) found x) (sym (ap (option_and_then (slice_get (names_now names))) is
    ∙ slice_get-map (λ n. n.now) names k ∙ ap (option_map (λ n. n.now)) there))
    ∙ passed_by_number parameters (names_now names) x
  where
    by : (found : Option (Bor (List ℕ))) → option_map_or (λ n. n.now) found x ≡ option_map_or (λ y. y) (option_map (λ n. n.now) found) x
    by None = refl
    by (Some n) = refl

pub no_parameter : (parameters : List Name) (names : List (Bor (List ℕ))) (x : List ℕ) → number_of parameters x ≡ None →
    x ≡ passed (texts parameters) (names_now names) x
no_parameter parameters names x is =
    sym (ap (λ o. option_map_or (λ y. y) (option_and_then (slice_get (names_now names)) o) x) is)
    ∙ passed_by_number parameters (names_now names) x
