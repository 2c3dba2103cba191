-- One name at most is equality, and it is the one that is found.
use Rattle.std.proofs.Common.{◌≡◌, ◌∙◌, ◌↔◌, ℕ, Bool, true, false, ◌&&◌, ◌==◌, cond, List, [], ◌∷◌, length, slice_get}
use Rattle.std.proofs.Common.{Option, Some, None, IsTrue, nat_lt, codes, refl, sym, ap, arith, true≢false}
use Rattle.std.specs.Prelude.{position, option_map}
use Rattle.std.specs.List.{position_or_len}
use Rattle.std.specs.Option.{option_map_or}
use Rattle.std.specs.Str.{bytes_eq}
use Rattle.std.proofs.lemmas.Bool.{and_parts, and_from, ltb-false}
use Rattle.std.proofs.lemmas.Option.{none-some, same_Some, slice_get_within, slice_get-get_or, slice_get-map, get_or_from_slice_get}
use Rattle.std.proofs.lemmas.List.Quantifiers.{position-Some}
use Rattle.std.proofs.lemmas.List.Sums.{fails_before_first}
use Rattle.base_library.proofs.Options.{some_passes}
use Rattle.base_library.proofs.Places.{slice_get_mapped}
use Rattle.base_library.proofs.Bytes.{same_bytes, bytes_same}
use Rattle.tsl_terms.specs.declared.names.NameKind.TheVariants.{Predicate}
use Rattle.tsl_terms.specs.Name.{Name, same_kind, is_name, texts, number_of, AreDistinct}
use Rattle.tsl_terms.specs.Equality.{names_equality, is_equality, equality_in}

-- where a member passes there is a first one
first_place : {X : Type 0} (p : X → Bool) (xs : List X) (i : ℕ) (x : X) → slice_get xs i ≡ Some x → p x ≡ true →
    (k : ℕ) × (position p xs ≡ Some k)
first_place p xs i x at passes = by (nat_lt (position_or_len p xs) (length xs)) refl
  where
    by : (b : Bool) → nat_lt (position_or_len p xs) (length xs) ≡ b → (k : ℕ) × (position p xs ≡ Some k)
    by true within = (position_or_len p xs, ap (λ b. cond b (Some (position_or_len p xs)) None) within)
    by false past =
        let behind = ltb-false (position_or_len p xs) (length xs) past in
        let inside = slice_get_within xs i x at in
        absurd (true≢false (sym passes ∙ ap p (sym (get_or_from_slice_get xs i x x at))
        ∙ fails_before_first p xs i x (omega (arith, behind, inside))))

-- what stands at the first place passes
first_passes : {X : Type 0} (p : X → Bool) (xs : List X) (k : ℕ) → position p xs ≡ Some k → (x : X) × (slice_get xs k ≡ Some x) × (p x ≡ true)
first_passes p [] k is = absurd (none-some k is)
first_passes p (y ∷ xs) k is =
    let found = position-Some p (y ∷ xs) k y is in (_, slice_get-get_or (y ∷ xs) k y found.0, found.1)

-- what is found among names is equality
pub found_is_equality : (names : List Name) (id : ℕ) → equality_in names ≡ Some id → is_equality names id ≡ true
found_is_equality names id is =
    let first = first_passes names_equality names id is in
    ap (λ o. option_map_or names_equality o false) first.1 ∙ first.2

module _ (names : List Name) (distinct : AreDistinct names) where
  -- what has a number has its text
  text_at : (id : ℕ) → number_of names (codes "eq") ≡ Some id → (n : Name) × (slice_get names id ≡ Some n) × (codes "eq" ≡ n.text)
  text_at id is =
      let found = first_passes (bytes_eq (codes "eq")) (texts names) id is in
      let named = slice_get_mapped (λ (m : Name). m.text) names id found.0 found.1 in
      (named.0, named.1, same_bytes (codes "eq") found.0 found.2 ∙ sym named.2)

  -- the number of a name that is equality is that of its text
  of_text : (id : ℕ) → is_equality names id ≡ true → number_of names (codes "eq") ≡ Some id
  of_text id is =
      let named = some_passes (slice_get names id) names_equality is in
      let n = named.0 in
      let text = (and_parts (bytes_eq (codes "eq") n.text) (same_kind n.kind Predicate && (n.arity == 2)) named.2).0 in
      let here = slice_get-map (λ (m : Name). m.text) names id ∙ ap (option_map (λ (m : Name). m.text)) named.1 in
      let first = first_place (bytes_eq (codes "eq")) (texts names) id n.text here text in
      let found = text_at first.0 first.1 in
      let same = distinct first.0 id found.0 n found.1 named.1 (sym found.2 ∙ same_bytes (codes "eq") n.text text) in
      first.1 ∙ ap Some same

  -- a number that is exactly that of equality is the one that is found among names
  in_names : (r : Option ℕ) → ((id : ℕ) → (r ≡ Some id) ↔ IsTrue (is_equality names id)) → r ≡ equality_in names
  in_names r exact = by (equality_in names) refl r refl
    where
      by : (found : Option ℕ) → equality_in names ≡ found → (s : Option ℕ) → r ≡ s → r ≡ equality_in names
      by (Some k) there s is =
          (exact k).1 (found_is_equality names k there) ∙ sym there
      by None there None is = is ∙ sym there
      by None there (Some id) is =
          let named = some_passes (slice_get names id) names_equality ((exact id).0 is) in
          let first = first_place names_equality names id named.0 named.1 named.2 in
          absurd (none-some first.0 (sym there ∙ first.1))

  -- what the three answers give
  abbrev pub IsEquality : Option ℕ → Type 0
  IsEquality r = (r ≡ equality_in names) × ((id : ℕ) → (r ≡ Some id) ↔ IsTrue (is_equality names id))

  pub unnamed : number_of names (codes "eq") ≡ None → IsEquality None
  unnamed none = (in_names None exact, exact)
    where
      exact : (id : ℕ) → (None ≡ Some id) ↔ IsTrue (is_equality names id)
      exact id = (λ e. absurd (none-some id e), λ is. absurd (none-some id (sym none ∙ of_text id is)))

  pub named_otherwise : (k : ℕ) → number_of names (codes "eq") ≡ Some k → is_name names k Predicate 2 ≡ false → IsEquality None
  named_otherwise k there other = (in_names None exact, exact)
    where
      exact : (id : ℕ) → (None ≡ Some id) ↔ IsTrue (is_equality names id)
      exact id = (λ e. absurd (none-some id e), λ is. absurd (clash id is))
        where
          clash : (j : ℕ) → is_equality names j ≡ true → ⊥
          clash j is =
              let named = some_passes (slice_get names j) names_equality is in
              let n = named.0 in
              let parts = and_parts (bytes_eq (codes "eq") n.text) (same_kind n.kind Predicate && (n.arity == 2)) named.2 in
              let same : k ≡ j = same_Some k j (sym there ∙ of_text j is) in
              let fits : is_name names k Predicate 2 ≡ true =
              ap (λ i. is_name names i Predicate 2) same
              ∙ ap (λ o. option_map_or (λ m. same_kind m.kind Predicate && (m.arity == 2)) o false) named.1 ∙ parts.1 in
              true≢false (sym fits ∙ other)

  pub named_so : (k : ℕ) → number_of names (codes "eq") ≡ Some k → is_name names k Predicate 2 ≡ true → IsEquality (Some k)
  named_so k there fits = (in_names (Some k) exact, exact)
    where
      here : is_equality names k ≡ true
      here =
          let text = text_at k there in
          let is : (same_kind text.0.kind Predicate && (text.0.arity == 2)) ≡ true =
          ap (λ o. option_map_or (λ m. same_kind m.kind Predicate && (m.arity == 2)) o false) (sym text.1) ∙ fits in
          ap (λ o. option_map_or names_equality o false) text.1
          ∙ and_from (bytes_eq (codes "eq") text.0.text) (same_kind text.0.kind Predicate && (text.0.arity == 2))
          (bytes_same (codes "eq") text.0.text text.2) is

      exact : (id : ℕ) → (Some k ≡ Some id) ↔ IsTrue (is_equality names id)
      exact id = (λ e. ap (is_equality names) (sym (same_Some k id e)) ∙ here, λ is. sym there ∙ of_text id is)
