-- Tables of sizes, filled in an order in which each definition uses only earlier ones.
use Rattle.std.proofs.Common.{◌≡◌, ◌∙◌, ℕ, zero, suc, ◌+◌, ◌<◌, ◌≤◌, ◌==◌, Bool, true, false, ◌&&◌, min, List, length, get_or, map, set, Option, Some, None, slice_get}
use Rattle.std.proofs.Common.{refl, sym, ap, subst, arith}
use Rattle.std.specs.Prelude.{option_map, option_and_then}
use Rattle.std.specs.Option.{option_map_or, is_some}
use Rattle.std.proofs.lemmas.Bool.{eqb-true, eqb-false}
use Rattle.std.proofs.lemmas.List.{length-map}
use Rattle.std.proofs.lemmas.Option.{same_Some, slice_get_within, slice_get-get_or, slice_get_read}
use Rattle.base_library.proofs.Each.{each_from_places}
use Rattle.base_library.proofs.Numbers.{among_place}
use Rattle.base_library.proofs.Places.{slice_get_set, slice_get_set_same}
use Rattle.tsl_terms.specs.Name.{Name, number_of, AreDistinct}
use Rattle.spec_syntax.specs.Syntax.{Definition}
use Rattle.spec_syntax.specs.SyntaxView.{formula_syntax}
use Rattle.definition_expansion.specs.declared.definitions.ReadDefinition.{ReadDefinition}
use Rattle.definition_expansion.specs.declared.sizing.Size.{Size}
use Rattle.definition_expansion.specs.DefinitionView.{definition_of, named_in, AreHeads}
use Rattle.definition_expansion.specs.Folds.{Fold, fold_by, number_within}
use Rattle.definition_expansion.specs.Uses.{stands_in, uses_of, IsOrder}
use Rattle.definition_expansion.specs.ExpansionSizes.{size_at, number_in}
use Rattle.definition_expansion.specs.internal.UseNumbers.{used_names}
use Rattle.definition_expansion.specs.internal.SizeTables.{HasNumbers}
use Rattle.definition_expansion.proofs.FoundByNumber.{no_definition}
use Rattle.definition_expansion.proofs.NamedLemmas.{stands_is, name_at_place, named_at}
use Rattle.definition_expansion.proofs.SizeLemmas.{StopsAt, formula_same_on, formula_stopped}
use Rattle.definition_expansion.proofs.UseGraphs.{mapped_at, named_one, number_at, defined_by}

none_within : (F : Fold) (named : List ℕ → Option Definition) (n : ℕ) (x : List ℕ) → named x ≡ None → number_within F named n x ≡ None
none_within F named zero x away = refl
none_within F named (suc n) x away = ap (option_map _) away

module _ (heads : List Name) (rs : List ReadDefinition) (are : AreHeads heads rs) (distinct : AreDistinct heads) (order : List ℕ)
    (is_order : IsOrder (map definition_of rs) order) where
  abbrev ds : List Definition
  ds = map definition_of rs

  abbrev named : List ℕ → Option Definition
  named = named_in ds

  -- a used name that is defined is that of an earlier definition
  record IsEarlierUse (p : ℕ) (y : List ℕ) (e : Definition) : Type 0 where
    place : ℕ
    index : ℕ
    before : place < p
    stands : slice_get order place ≡ Some index
    here : slice_get ds index ≡ Some e
    name_is : e.name ≡ y

  earlier_use : (p i : ℕ) (d : Definition) (k : ℕ) (y : List ℕ) (e : Definition) → slice_get order p ≡ Some i → slice_get ds i ≡ Some d →
      slice_get (used_names d.body) k ≡ Some y → named y ≡ Some e → IsEarlierUse p y e
  earlier_use p i d k y e at_p at_i at_k is =
      let f = named_at ds y e is in
      let stands : stands_in d.body e.name ≡ true =
      stands_is d.body e.name ∙ name_at_place (used_names d.body) k e.name (at_k ∙ ap Some (sym f.2)) in
      let uses : uses_of named d.name e.name ≡ true =
      (λ m. option_map_or (λ g. stands_in g.body e.name) (named_one heads rs are distinct i d at_i m) false
      && is_some (named_one heads rs are distinct f.0 e f.1 m)) ∙ ap (λ b. b && true) stands in
      let q = is_order.earlier p i f.0 d e at_p at_i f.1 uses in
      record { place = q.0; index = f.0; before = q.1; stands = q.2; here = f.1; name_is = f.2 }

  module _ (F : Fold) where
    of_one : (n i : ℕ) (d : Definition) → slice_get ds i ≡ Some d →
        number_within F named (suc n) d.name ≡ Some (F.of_group (fold_by F (number_within F named n) d.body))
    of_one n i d at =
        ap (option_map (λ k. F.of_group (fold_by F (number_within F named n) k.body))) (named_one heads rs are distinct i d at)

    -- above the place of a definition its number stays
    pub stays : (n p i : ℕ) (d : Definition) → slice_get order p ≡ Some i → slice_get ds i ≡ Some d → p < n →
        number_within F named (suc n) d.name ≡ number_within F named n d.name
    stays zero p i d at_p at_i less = absurd (omega (arith, less))
    stays (suc n) p i d at_p at_i less =
        of_one (suc n) i d at_i
        ∙ ap (λ m. Some (F.of_group m)) (formula_same_on F (number_within F named (suc n)) (number_within F named n) d.body
        (each_from_places _ (used_names d.body)
        (λ k y at_k. same_at k y at_k (λ q j e at_q at_j before. stays n q j e at_q at_j (omega (arith, before, less))))))
        ∙ sym (of_one n i d at_i)
      where
        same_at : (k : ℕ) (y : List ℕ) → slice_get (used_names d.body) k ≡ Some y →
            ((q j : ℕ) (e : Definition) → slice_get order q ≡ Some j → slice_get ds j ≡ Some e → q < p →
            number_within F named (suc n) e.name ≡ number_within F named n e.name) →
            number_within F named (suc n) y ≡ number_within F named n y
        same_at k y at_k before = by (named y) refl
          where
            by : (o : Option Definition) → named y ≡ o → number_within F named (suc n) y ≡ number_within F named n y
            by None is = none_within F named (suc n) y is ∙ sym (none_within F named n y is)
            by (Some e) is =
                let earlier = earlier_use p i d k y e at_p at_i at_k is in
                subst (λ x. number_within F named (suc n) x ≡ number_within F named n x) earlier.name_is
                (before earlier.place earlier.index e earlier.stands earlier.here earlier.before)

    few : (p i : ℕ) → slice_get order p ≡ Some i → p < length ds
    few p i at = omega (arith, is_order.count, slice_get_within order p i at)

    number_is : (p i : ℕ) (d : Definition) → slice_get order p ≡ Some i → slice_get ds i ≡ Some d →
        number_in F ds d.name ≡ Some (F.of_group (fold_by F (number_in F ds) d.body))
    number_is p i d at_p at_i = sym (stays (length ds) p i d at_p at_i (few p i at_p)) ∙ of_one (length ds) i d at_i

  -- ---- tables

  module _ (F : Fold) (most : ℕ) (stops : StopsAt most F) (number : Size → ℕ) where
    abbrev number_at_name : List Size → List ℕ → Option ℕ
    number_at_name sizes x = option_map number (size_at heads sizes x)

    abbrev HasFirst : ℕ → List Size → Type 0
    HasFirst p sizes = HasNumbers F most number ds order p sizes

    at_number : (sizes : List Size) (x : List ℕ) (j : ℕ) → number_of heads x ≡ Some j →
        number_at_name sizes x ≡ option_map number (slice_get sizes j)
    at_number sizes x j is = ap (λ o. option_map number (option_and_then (slice_get sizes) o)) is

    at_none : (sizes : List Size) (x : List ℕ) → number_of heads x ≡ None →
        number_at_name sizes x ≡ option_map (min most) (number_in F ds x)
    at_none sizes x is =
        ap (λ o. option_map number (option_and_then (slice_get sizes) o)) is
        ∙ sym (ap (option_map (min most)) (none_within F named (length ds) x (no_definition heads rs x are is)))

    -- the next definition's number, by the table so far
    next_is : (sizes : List Size) (p i : ℕ) (d : Definition) → HasFirst p sizes → slice_get order p ≡ Some i → slice_get ds i ≡ Some d →
        Some (min most (F.of_group (min most (fold_by F (number_at_name sizes) d.body))))
        ≡ option_map (min most) (number_in F ds d.name)
    next_is sizes p i d has at_p at_i =
        ap (λ m. Some m) (stops.group _ _ (twice (fold_by F (number_at_name sizes) d.body)
        ∙ formula_stopped most F stops (number_at_name sizes) (number_in F ds) d.body
        (each_from_places _ (used_names d.body) at_place)))
        ∙ sym (ap (option_map (min most)) (number_is F p i d at_p at_i))
      where
        twice : (n : ℕ) → min most (min most n) ≡ min most n
        twice n = omega arith

        at_place : (k : ℕ) (y : List ℕ) → slice_get (used_names d.body) k ≡ Some y →
            number_at_name sizes y ≡ option_map (min most) (number_in F ds y)
        at_place k y at_k = by (number_of heads y) refl
          where
            one_number : (j k : ℕ) (e : Definition) → slice_get ds k ≡ Some e → slice_get ds j ≡ Some e → j ≡ k
            one_number j k e at_k at_j =
                same_Some j k (sym (number_at heads rs are distinct j e at_j) ∙ number_at heads rs are distinct k e at_k)

            by : (o : Option ℕ) → number_of heads y ≡ o → number_at_name sizes y ≡ option_map (min most) (number_in F ds y)
            by None is = at_none sizes y is
            by (Some j) is =
                let e = defined_by heads rs are distinct y j is in
                let earlier = earlier_use p i d k y e.0 at_p at_i at_k e.3 in
                at_number sizes y j is
                ∙ ap (λ m. option_map number (slice_get sizes m)) (one_number j earlier.index e.0 earlier.here e.1)
                ∙ has earlier.place earlier.index e.0 earlier.before earlier.stands earlier.here
                ∙ ap (λ x. option_map (min most) (number_in F ds x)) earlier.name_is

    -- one number more
    has_more : (sizes : List Size) (p i : ℕ) (d : Definition) (s : Size) → i < length sizes → HasFirst p sizes → slice_get order p ≡ Some i →
        slice_get ds i ≡ Some d → Some (number s) ≡ option_map (min most) (number_in F ds d.name) → HasFirst (p + 1) (set sizes i s)
    has_more sizes p i d s within has at_p at_i is q j e before at_q at_j = by (i == j) refl
      where
        by : (b : Bool) → (i == j) ≡ b → option_map number (slice_get (set sizes i s) j) ≡ option_map (min most) (number_in F ds e.name)
        by true same =
            let here : i ≡ j = eqb-true i j same in
            let d_is : d ≡ e = same_Some d e (sym at_i ∙ ap (slice_get ds) here ∙ at_j) in
            ap (λ k. option_map number (slice_get (set sizes i s) k)) (sym here)
            ∙ ap (option_map number) (slice_get_set_same sizes i s within) ∙ is
            ∙ ap (λ f. option_map (min most) (number_in F ds f.name)) d_is
        by false other =
            let apart : i ≡ j → ⊥ = eqb-false i j other in
            ap (option_map number) (slice_get_set sizes i j s (λ same. apart (sym same)))
            ∙ has q j e (earlier (λ same. apart (same_Some i j (sym at_p ∙ ap (slice_get order) (sym same) ∙ at_q)))) at_q at_j
          where
            earlier : (q ≡ p → ⊥) → q < p
            earlier ne = grind (arith, ne, before)

    -- the size of the next one is put into the table
    pub put_next : (sizes : List Size) (p : ℕ) (r : ReadDefinition) (s : Size) (m : ℕ) → p < length order → length sizes ≡ length rs →
        r ≡ get_or rs (get_or order p 0) r → HasFirst p sizes → m ≡ min most (fold_by F (number_at_name sizes) (formula_syntax r.body)) →
        number s ≡ min most (F.of_group m) → HasFirst (p + 1) (set sizes (get_or order p 0) s)
    put_next sizes p r s m less same_size read has m_is s_is =
        let i = get_or order p 0 in
        let at_p : slice_get order p ≡ Some i = slice_get-get_or order p 0 less in
        let e = is_order.within p i at_p in
        let within : i < length rs = omega (arith, slice_get_within ds i e.0 e.1, length-map rs definition_of) in
        let at_i : slice_get ds i ≡ Some (definition_of r) =
        mapped_at definition_of rs i r (slice_get_read rs (length rs) i r refl within read) in
        has_more sizes p i (definition_of r) s (omega (arith, within, same_size)) has at_p at_i
        (ap Some (s_is ∙ ap (λ k. min most (F.of_group k)) m_is) ∙ next_is sizes p i (definition_of r) has at_p at_i)

    pub all_there : (sizes : List Size) (p : ℕ) → length order ≤ p → HasFirst p sizes → (x : List ℕ) →
        number_at_name sizes x ≡ option_map (min most) (number_in F ds x)
    all_there sizes p past has x = by (number_of heads x) refl
      where
        by : (o : Option ℕ) → number_of heads x ≡ o → number_at_name sizes x ≡ option_map (min most) (number_in F ds x)
        by None is = at_none sizes x is
        by (Some j) is =
            let e = defined_by heads rs are distinct x j is in
            let place = among_place order j (is_order.all j e.0 e.1) in
            at_number sizes x j is
            ∙ has place.0 j e.0 (omega (arith, past, slice_get_within order place.0 j place.1)) place.1 e.1
            ∙ ap (λ y. option_map (min most) (number_in F ds y)) e.2
