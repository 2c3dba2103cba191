-- A name has a value or a truth at as many arguments as it takes.
use Rattle.std.proofs.Common.{◌≡◌, ◌∙◌, ℕ, ◌+◌, ◌*◌, ◌^◌, ◌<◌, ◌==◌, Bool, true, false, ◌&&◌, cond, List, length, map, Option, Some, None, slice_get, refl, sym, ap, subst, arith}
use Rattle.std.specs.Prelude.{option_map, option_and_then, IsSome}
use Rattle.std.specs.Option.{option_map_or}
use Rattle.std.proofs.lemmas.Bool.{and_parts, eqb-true, eq-eqb, false≢true}
use Rattle.std.proofs.lemmas.Option.{none-some}
use Rattle.std.proofs.lemmas.List.{map-id}
use Rattle.base_library.proofs.Options.{map_there}
use Rattle.base_library.proofs.Places.{slice_get_some}
use Rattle.tsl_terms.specs.declared.names.NameKind.{NameKind}
use Rattle.tsl_terms.specs.declared.names.NameKind.TheVariants.{Signal, Function, Predicate}
use Rattle.tsl_terms.specs.Name.{Name, is_name, same_kind}
use Rattle.tsl_terms.specs.Equality.{is_equality}
use Rattle.tsl_meaning.specs.Interpretation.{Interpretation, IsInterpretation, IsEqualityOf, are_values, place_of_arguments, entry_of, entry_at, meanings_with}
use Rattle.tsl_meaning.proofs.Values.{place_below}

is_function : (k : NameKind) → same_kind k Function ≡ true → k ≡ Function
is_function Function e = refl
is_function Signal e = absurd (false≢true e)
is_function Predicate e = absurd (false≢true e)

is_predicate : (k : NameKind) → same_kind k Predicate ≡ true → k ≡ Predicate
is_predicate Predicate e = refl
is_predicate Signal e = absurd (false≢true e)
is_predicate Function e = absurd (false≢true e)

named : (names : List Name) (id : ℕ) (kind : NameKind) (count : ℕ) → is_name names id kind count ≡ true →
    (n : Name) × (slice_get names id ≡ Some n) × (same_kind n.kind kind ≡ true) × (n.arity ≡ count)
named names id kind count test = by (slice_get names id) refl test where
  by : (found : Option Name) → slice_get names id ≡ found →
      option_map_or (λ n. same_kind n.kind kind && (n.arity == count)) found false ≡ true →
      (n : Name) × (slice_get names id ≡ Some n) × (same_kind n.kind kind ≡ true) × (n.arity ≡ count)
  by None there test = absurd (false≢true test)
  by (Some n) there test =
      let parts = and_parts (same_kind n.kind kind) (n.arity == count) test in
      (n, there, parts.0, eqb-true n.arity count parts.1)

entry_some : (domain : ℕ) (arguments table : List ℕ) → length table ≡ domain ^ length arguments → IsSome (entry_of domain arguments table)
entry_some domain arguments table size =
    subst (λ (o : Option ℕ). IsSome o)
    (sym (ap (λ b. cond b (cond (are_values domain arguments) (slice_get table (place_of_arguments domain arguments)) (Some 0)) None)
    (eq-eqb (length table) (domain ^ length arguments) size)))
    (by (are_values domain arguments) refl) where
      by : (b : Bool) → are_values domain arguments ≡ b →
          IsSome (cond b (slice_get table (place_of_arguments domain arguments)) (Some 0))
      by false e = refl
      by true e =
          let within : place_of_arguments domain arguments < length table = omega (arith, place_below domain 0 arguments e, size) in
          let entry = slice_get_some table (place_of_arguments domain arguments) within in
          subst (λ (o : Option ℕ). IsSome o) (sym entry.1) refl

entry_there : (interpretation : Interpretation) (id arity : ℕ) (arguments table : List ℕ) → slice_get interpretation.tables id ≡ Some table →
    length table ≡ interpretation.domain ^ arity → arity ≡ length arguments → IsSome (entry_at interpretation id arguments)
entry_there interpretation id arity arguments table there size count =
    subst (λ (o : Option ℕ). IsSome o)
    (sym (ap (option_and_then (entry_of interpretation.domain arguments)) there))
    (entry_some interpretation.domain arguments table (size ∙ ap (λ k. interpretation.domain ^ k) count))

module _ (names : List Name) (cells : List ℕ) (interpretation : Interpretation) (is : IsInterpretation names cells interpretation) where
  pub value_there : (f : ℕ) (arguments : List ℕ) → is_name names f Function (length arguments) ≡ true →
      IsSome (entry_at interpretation f (map (λ (v : ℕ). v) arguments))
  value_there f arguments test =
      let n = named names f Function (length arguments) test in
      let table = is.functions f n.0 n.1 (is_function n.0.kind n.2) in
      subst (λ (vs : List ℕ). IsSome (entry_at interpretation f vs)) (sym (map-id arguments))
      (entry_there interpretation f n.0.arity arguments table.0 table.1 table.2.0 n.3)

  no_equality : (equality : Option ℕ) → IsEqualityOf names equality → equality ≡ None → (p : ℕ) → is_equality names p ≡ false
  no_equality equality of none p = by (is_equality names p) refl where
    by : (b : Bool) → is_equality names p ≡ b → b ≡ false
    by false e = refl
    by true e = absurd (none-some p (sym none ∙ (of p).1 e))

  pub truth_there : (equality : Option ℕ) → IsEqualityOf names equality → equality ≡ None →
      (p : ℕ) (arguments : List ℕ) → is_name names p Predicate (length arguments) ≡ true →
      IsSome ((meanings_with equality cells interpretation).predicate p (map (λ (v : ℕ). v) arguments))
  truth_there equality of none p arguments test =
      let n = named names p Predicate (length arguments) test in
      let table = is.predicates p n.0 n.1 (is_predicate n.0.kind n.2) (no_equality equality of none p) in
      let entry = entry_there interpretation p n.0.arity arguments table.0 table.1 table.2.0 n.3 in
      subst (λ (vs : List ℕ). IsSome ((meanings_with equality cells interpretation).predicate p vs)) (sym (map-id arguments))
      (subst (λ (o : Option ℕ). IsSome ((meanings_with o cells interpretation).predicate p arguments)) (sym none)
      (map_there (λ entry. entry == 1) (entry_at interpretation p arguments) entry))
