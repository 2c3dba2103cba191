-- The graph of uses by numbers says what definitions use by their names.
use Rattle.std.proofs.Common.{◌≡◌, ◌∙◌, ℕ, zero, suc, ◌<◌, Bool, true, false, ◌&&◌, ◌||◌, ◌==◌, List, [], ◌∷◌, length, map, Option, Some, None, slice_get}
use Rattle.std.proofs.Common.{refl, sym, ap, subst, arith}
use Rattle.std.specs.Prelude.{option_map, option_and_then}
use Rattle.std.specs.List.{cons_option}
use Rattle.std.specs.Option.{is_some, option_map_or}
use Rattle.std.specs.Str.{bytes_eq}
use Rattle.std.proofs.lemmas.Bool.{and_parts, or_right, false≢true, eqb-true}
use Rattle.std.proofs.lemmas.List.{length-map}
use Rattle.std.proofs.lemmas.List.Quantifiers.{position-Some}
use Rattle.std.proofs.lemmas.Option.{none-some, same_Some, slice_get-map, slice_get_within}
use Rattle.base_library.specs.Numbers.{is_among}
use Rattle.base_library.proofs.Numbers.{among_at, among_first}
use Rattle.base_library.proofs.Options.{some_is}
use Rattle.base_library.proofs.Places.{slice_get_some}
use Rattle.tsl_terms.specs.Name.{Name, texts, number_of, AreDistinct}
use Rattle.spec_syntax.specs.Syntax.{Definition}
use Rattle.depth_first_search.specs.Reaching.{Reaches, one, more, Using}
use Rattle.depth_first_search.specs.Graphs.{goes, IsGraph, ReachesFrom, HasCycle, IsOrder as IsGraphOrder, IsFirstOnCycle as IsFirstOfGraph}
use Rattle.definition_expansion.specs.declared.definitions.ReadDefinition.{ReadDefinition}
use Rattle.definition_expansion.specs.DefinitionView.{definition_of, named_in, AreHeads}
use Rattle.definition_expansion.specs.Uses.{stands_in, uses_of, IsOrder, IsFirstOnCycle}
use Rattle.definition_expansion.specs.internal.UseNumbers.{used_names, numbers_of, use_graph}
use Rattle.definition_expansion.proofs.FoundByNumber.{found_by_number}
use Rattle.definition_expansion.proofs.NamedLemmas.{stands_is, name_at_place, place_of_name, named_at, AreApart, named_by_number, are_apart}

-- ---- lists

pub mapped_at : {X Y : Type 0} (f : X → Y) (xs : List X) (i : ℕ) (x : X) → slice_get xs i ≡ Some x → slice_get (map f xs) i ≡ Some (f x)
mapped_at f xs i x at = slice_get-map f xs i ∙ ap (option_map f) at

-- ---- names and their numbers

numbered_more : (heads : List Name) (y : List ℕ) (names : List (List ℕ)) (j : ℕ) → is_among (numbers_of heads names) j ≡ true →
    is_among (numbers_of heads (y ∷ names)) j ≡ true
numbered_more heads y names j h = by (number_of heads y) refl
  where
    by : (o : Option ℕ) → number_of heads y ≡ o → is_among (numbers_of heads (y ∷ names)) j ≡ true
    by None is = subst (λ o. is_among (cons_option o (numbers_of heads names)) j ≡ true) (sym is) h
    by (Some n) is =
        subst (λ o. is_among (cons_option o (numbers_of heads names)) j ≡ true) (sym is)
        (or_right (n == j) (is_among (numbers_of heads names) j) h)

-- a name that is used, by its number
pub numbered_at : (heads : List Name) (names : List (List ℕ)) (k : ℕ) (y : List ℕ) (j : ℕ) → slice_get names k ≡ Some y →
    number_of heads y ≡ Some j → is_among (numbers_of heads names) j ≡ true
numbered_at heads [] k y j at is = absurd (none-some y at)
numbered_at heads (x ∷ names) zero y j at is =
    let found : number_of heads x ≡ Some j = ap (number_of heads) (same_Some x y at) ∙ is in
    subst (λ o. is_among (cons_option o (numbers_of heads names)) j ≡ true) (sym found) (among_first j (numbers_of heads names))
numbered_at heads (x ∷ names) (suc k) y j at is = numbered_more heads x names j (numbered_at heads names k y j at is)

pub name_of_number : (heads : List Name) (names : List (List ℕ)) (j : ℕ) → is_among (numbers_of heads names) j ≡ true →
    (y : List ℕ) × (k : ℕ) × (slice_get names k ≡ Some y) × (number_of heads y ≡ Some j)
name_of_number heads [] j h = absurd (false≢true h)
name_of_number heads (x ∷ names) j h = by (number_of heads x) refl (name_of_number heads names j)
  where
    by_test : (n : ℕ) (b : Bool) → (n == j) ≡ b → (b || is_among (numbers_of heads names) j) ≡ true → number_of heads x ≡ Some n →
        (is_among (numbers_of heads names) j ≡ true →
        (y : List ℕ) × (k : ℕ) × (slice_get names k ≡ Some y) × (number_of heads y ≡ Some j)) →
        (y : List ℕ) × (k : ℕ) × (slice_get (x ∷ names) k ≡ Some y) × (number_of heads y ≡ Some j)
    by_test n true same k is rest = (x, 0, refl, is ∙ ap Some (eqb-true n j same))
    by_test n false other k is rest = ((rest k).0, suc (rest k).1, (rest k).2, (rest k).3)

    by : (o : Option ℕ) → number_of heads x ≡ o → (is_among (numbers_of heads names) j ≡ true →
        (y : List ℕ) × (k : ℕ) × (slice_get names k ≡ Some y) × (number_of heads y ≡ Some j)) →
        (y : List ℕ) × (k : ℕ) × (slice_get (x ∷ names) k ≡ Some y) × (number_of heads y ≡ Some j)
    by None is rest =
        let there : is_among (numbers_of heads names) j ≡ true =
        subst (λ o. is_among (cons_option o (numbers_of heads names)) j ≡ true) is h in
        ((rest there).0, suc (rest there).1, (rest there).2, (rest there).3)
    by (Some n) is rest =
        let there : ((n == j) || is_among (numbers_of heads names) j) ≡ true =
        subst (λ o. is_among (cons_option o (numbers_of heads names)) j ≡ true) is h in
        by_test n (n == j) refl there is rest

module _ (heads : List Name) (rs : List ReadDefinition) (are : AreHeads heads rs) (distinct : AreDistinct heads) where
  abbrev ds : List Definition
  ds = map definition_of rs

  abbrev graph : List (List ℕ)
  graph = use_graph heads ds

  apart : AreApart ds
  apart = are_apart heads rs are distinct

  pub graph_size : length graph ≡ length ds
  graph_size = length-map ds (λ d. numbers_of heads (used_names d.body))

  pub heads_size : length heads ≡ length ds
  heads_size = sym (length-map heads (λ n. n.text)) ∙ ap length are ∙ length-map ds (λ d. d.name)

  pub named_one : (i : ℕ) (d : Definition) → slice_get ds i ≡ Some d → named_in ds d.name ≡ Some d
  named_one i d at = named_by_number ds i d apart at

  -- a name with a number is that of the definition with that number
  pub defined_by : (y : List ℕ) (j : ℕ) → number_of heads y ≡ Some j → (e : Definition) × (slice_get ds j ≡ Some e) × (e.name ≡ y)
      × (named_in ds y ≡ Some e)
  defined_by y j is =
      let found : slice_get ds j ≡ named_in ds y = sym (ap (option_and_then (slice_get ds)) is) ∙ found_by_number heads rs y are in
      let within : j < length (texts heads) = (position-Some (bytes_eq y) (texts heads) j [] is).0 in
      let few : length (texts heads) ≡ length ds = length-map heads (λ n. n.text) ∙ heads_size in
      let there = slice_get_some ds j (omega (arith, within, few)) in
      let named : named_in ds y ≡ Some there.0 = sym found ∙ there.1 in
      let at = named_at ds y there.0 named in
      (there.0, there.1, at.2, named)

  pub number_at : (j : ℕ) (e : Definition) → slice_get ds j ≡ Some e → number_of heads e.name ≡ Some j
  number_at j e at = by (number_of heads e.name) refl
    where
      by : (o : Option ℕ) → number_of heads e.name ≡ o → number_of heads e.name ≡ Some j
      by None is = absurd (none-some e (sym (ap (option_and_then (slice_get ds)) is) ∙ found_by_number heads rs e.name are ∙ named_one j e at))
      by (Some k) is =
          let d = defined_by e.name k is in
          is ∙ ap Some (apart k j d.0 e d.1 at d.2)

  pub row_at : (i : ℕ) (d : Definition) → slice_get ds i ≡ Some d → slice_get graph i ≡ Some (numbers_of heads (used_names d.body))
  row_at i d at = mapped_at (λ d. numbers_of heads (used_names d.body)) ds i d at

  goes_is : (i j : ℕ) (d : Definition) → slice_get ds i ≡ Some d → goes graph i j ≡ is_among (numbers_of heads (used_names d.body)) j
  goes_is i j d at = ap (λ o. option_map_or (λ js. is_among js j) o false) (row_at i d at)

  goes_within : (g : List (List ℕ)) (i j : ℕ) → goes g i j ≡ true → i < length g
  goes_within g i j h = by (slice_get g i) refl
    where
      by : (o : Option (List ℕ)) → slice_get g i ≡ o → i < length g
      by None is = absurd (false≢true (sym (ap (λ o. option_map_or (λ js. is_among js j) o false) is) ∙ h))
      by (Some js) is = slice_get_within g i js is

  definition_from : (i j : ℕ) → goes graph i j ≡ true → (d : Definition) × (slice_get ds i ≡ Some d)
  definition_from i j h = slice_get_some ds i (omega (arith, goes_within graph i j h, graph_size))

  -- what it goes to is used by its name
  used_name : (i j : ℕ) (d : Definition) → slice_get ds i ≡ Some d → goes graph i j ≡ true →
      (y : List ℕ) × (k : ℕ) × (slice_get (used_names d.body) k ≡ Some y) × (number_of heads y ≡ Some j)
  used_name i j d at h = name_of_number heads (used_names d.body) j (sym (goes_is i j d at) ∙ h)

  pub is_graph : IsGraph graph
  is_graph i j h =
      let d = definition_from i j h in
      let y = used_name i j d.0 d.1 h in
      let e = defined_by y.0 j y.3 in
      omega (arith, slice_get_within ds j e.0 e.1, graph_size)

  pub goes_if_uses : (i j : ℕ) (d e : Definition) → slice_get ds i ≡ Some d → slice_get ds j ≡ Some e →
      uses_of (named_in ds) d.name e.name ≡ true → goes graph i j ≡ true
  goes_if_uses i j d e at_i at_j uses =
      let stands : stands_in d.body e.name ≡ true =
      sym (ap (λ o. option_map_or (λ d. stands_in d.body e.name) o false) (named_one i d at_i)) ∙ (and_parts _ _ uses).0 in
      let place = place_of_name (used_names d.body) e.name (sym (stands_is d.body e.name) ∙ stands) in
      goes_is i j d at_i ∙ numbered_at heads (used_names d.body) place.0 e.name j place.1 (number_at j e at_j)

  pub uses_if_goes : (i j : ℕ) (d e : Definition) → slice_get ds i ≡ Some d → slice_get ds j ≡ Some e → goes graph i j ≡ true →
      uses_of (named_in ds) d.name e.name ≡ true
  uses_if_goes i j d e at_i at_j h =
      let y = used_name i j d at_i h in
      let f = defined_by y.0 j y.3 in
      let name_is : y.0 ≡ e.name = sym f.2 ∙ ap (λ g. g.name) (same_Some f.0 e (sym f.1 ∙ at_j)) in
      let stands : stands_in d.body e.name ≡ true =
      stands_is d.body e.name ∙ name_at_place (used_names d.body) y.1 e.name (y.2 ∙ ap Some name_is) in
      (λ k. option_map_or (λ g. stands_in g.body e.name) (named_one i d at_i k) false && is_some (named_one j e at_j k))
      ∙ ap (λ b. b && true) stands

  -- ---- reaching

  to_names : (i j : ℕ) (d e : Definition) → slice_get ds i ≡ Some d → slice_get ds j ≡ Some e → ReachesFrom graph i j →
      Reaches (Using (uses_of (named_in ds))) d.name e.name
  to_names i j d e at_i at_j (one h) = one (uses_if_goes i j d e at_i at_j h)
  to_names i j d e at_i at_j (more {y = k} h rest) =
      let f = slice_get_some ds k (omega (arith, is_graph i k h, graph_size)) in
      more (uses_if_goes i k d f.0 at_i f.1 h) (to_names k j f.0 e f.1 at_j rest)

  to_numbers : (x y : List ℕ) (i j : ℕ) (d e : Definition) → slice_get ds i ≡ Some d → slice_get ds j ≡ Some e → d.name ≡ x → e.name ≡ y →
      Reaches (Using (uses_of (named_in ds))) x y → ReachesFrom graph i j
  to_numbers x y i j d e at_i at_j x_is y_is (one h) =
      one (goes_if_uses i j d e at_i at_j ((λ k. uses_of (named_in ds) (x_is k) (y_is k)) ∙ h))
  to_numbers x y i j d e at_i at_j x_is y_is (more {y = z} h rest) =
      let named = some_is (named_in ds z) (and_parts _ _ h).1 in
      let f = named_at ds z named.0 named.1 in
      more (goes_if_uses i f.0 d named.0 at_i f.1 ((λ k. uses_of (named_in ds) (x_is k) (f.2 k)) ∙ h))
      (to_numbers z y f.0 j named.0 e f.1 at_j f.2 y_is rest)

  -- ---- orders and cycles

  pub order_by_names : (order : List ℕ) → IsGraphOrder graph order → IsOrder ds order
  order_by_names order is = record {
    all = λ i d at. is.all i (omega (arith, slice_get_within ds i d at, graph_size));
    once = is.once;
    count = is.count ∙ graph_size;
    within = λ p i at. slice_get_some ds i (omega (arith, is.within i (among_at order p i at), graph_size));
    earlier = λ p i j d e at at_i at_j uses. is.earlier p i j at (goes_if_uses i j d e at_i at_j uses);
  }

  pub cycle_by_names : (number : ℕ) → IsFirstOfGraph graph number → IsFirstOnCycle ds number
  cycle_by_names number is =
      let d = slice_get_some ds number (omega (arith, is.within, graph_size)) in
      record {
        definition = d.0;
        here = d.1;
        reaches = to_names number number d.0 d.0 d.1 d.1 is.reaches;
        first = λ i e before at cycle. is.first i before (to_numbers e.name e.name i i e e at at refl refl cycle);
      }

  first_step : (i j : ℕ) → ReachesFrom graph i j → i < length graph
  first_step i j (one h) = goes_within graph i j h
  first_step i j (more {y = k} h rest) = goes_within graph i k h

  pub cycle_is_found : HasCycle graph → ((i : ℕ) → i < length graph → ReachesFrom graph i i → ⊥) → ⊥
  cycle_is_found cycle none = none cycle.0 (first_step cycle.0 cycle.0 cycle.1) cycle.1
