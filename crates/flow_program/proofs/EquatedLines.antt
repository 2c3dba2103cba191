-- The equalities of a window's line and those with numbers: they are equalities alike, stand alike, and are in order alike.
use Rattle.std.proofs.Common.{◌≡◌, ℕ, ◌+◌, true, not, ◌==◌, ◌&&◌, ◌||◌, List, map, refl, ap, sym, ◌∙◌}
use Rattle.std.proofs.Common.{eq-eqb, arith, rules, Option}
use Rattle.std.specs.Prelude.{Some, option_map, slice_get, nat_le, nat_lt, codes, bytes_eq}
use Rattle.std.specs.List.{list_all, AllByRecursion}
use Rattle.std.proofs.lemmas.Bool.{and_parts, and_from, eqb-true, false≢true}
use Rattle.std.proofs.lemmas.Option.{slice_get-map}
use Rattle.base_library.specs.Options.{all_there}
use Rattle.base_library.proofs.Booleans.{same_tests}
use Rattle.base_library.proofs.Bytes.{same_bytes, bytes_same}
use Rattle.base_library.proofs.Each.{each_weaker}
use Rattle.base_library.proofs.Passes.{each_from_list_all}
use Rattle.std.proofs.Math.Bool.{and-true}
use Rattle.base_library.proofs.Options.{one_value, some_passes}
use Rattle.tsl_terms.specs.declared.names.NameKind.TheVariants.{Predicate}
use Rattle.tsl_terms.specs.Name.{number_of, texts, question, is_name, AreDistinct, Name as NameEntry}
use Rattle.tsl_terms.specs.TermTree.{TermTrees, ProbeTree, count_of_terms}
use Rattle.tsl_terms.specs.SameTree.{same_tree, same_trees, same_probe_tree}
use Rattle.tsl_terms.specs.WindowTree.{EquatedTree}
use Rattle.tsl_terms.specs.WellFormed.{probe_fits}
use Rattle.tsl_terms.specs.Equality.{names_equality, equality_in}
use Rattle.tsl_terms.specs.Congruence.{IsEquality}
use Rattle.tsl_terms.proofs.EqualityLemmas.{found_is_equality, named_so}
use Rattle.program_listing.specs.declared.listing.Name.{Name}
use Rattle.program_listing.specs.Listing.{SurfaceTermTree, bare, applied, SurfaceTermTrees, no_surfaces, more_surfaces, count_of_surfaces, name_bytes}
use Rattle.program_listing.specs.Listing.{PlacedLine}
use Rattle.program_tree.specs.Fits.{may_follow as may_stand_behind, are_in_order as stand_in_order}
use Rattle.flow_program.specs.Rules.{same_surface, same_surfaces, is_equality_test, is_equality_within, may_follow, are_in_order}
use Rattle.flow_program.specs.internal.Numbering.{small, numbered, numbered_term, numbered_terms, numbered_test, numbered_equated}
use Rattle.flow_program.proofs.NumberLemmas.{place_at, small_same}
use Rattle.base_library.proofs.ValuesOfOptions.{Holds, held, map_holds, then_holds}
use Rattle.base_library.proofs.PairedLists.{Paired, none, next, paired_there, paired_with, all_alike}

module _ (names : List NameEntry) (text : List ℕ) where
  -- ---- parts of what has numbers

  test_parts : (at : Name) (ps : SurfaceTermTrees) (p : ProbeTree) → numbered_test names text (applied at ps) ≡ Some p →
      (numbered names text at ≡ Some p.predicate) × (numbered_terms names text ps ≡ Some p.arguments)
  test_parts at ps p is =
      held (λ q. (numbered names text at ≡ Some q.predicate) × (numbered_terms names text ps ≡ Some q.arguments)) _ p
      (then_holds _ _ (numbered names text at) (λ f f_is. map_holds _ _ (numbered_terms names text ps) (λ ts ts_are. (f_is, ts_are)))) is

  one_argument : (at : Name) (p : ProbeTree) → numbered_test names text (bare at) ≡ Some p → count_of_terms p.arguments ≡ 1
  one_argument at p is =
      held (λ q. count_of_terms q.arguments ≡ 1) _ p
      (then_holds _ _ (numbered names text at) (λ s s_is. map_holds _ _ (number_of names question) (λ q q_is. refl))) is

  counts : (ps : SurfaceTermTrees) → Holds (λ ts. count_of_surfaces ps ≡ count_of_terms ts) (numbered_terms names text ps)
  counts no_surfaces = refl
  counts (more_surfaces p ps) =
      let rest = counts ps in
      then_holds _ _ (numbered_term names text p) (λ t t_is. map_holds _ _ (numbered_terms names text ps) (λ ts ts_are.
      ap (λ n. 1 + n) (held _ _ ts rest ts_are)))

  count_alike : (ps : SurfaceTermTrees) (ts : TermTrees) → numbered_terms names text ps ≡ Some ts → count_of_surfaces ps ≡ count_of_terms ts
  count_alike ps ts is = held (λ ts. count_of_surfaces ps ≡ count_of_terms ts) _ ts (counts ps) is

  -- ---- spelled alike, and of the same numbers

  same_names : (m n : Name) (r s : ℕ) → numbered names text m ≡ Some r → numbered names text n ≡ Some s →
      bytes_eq (name_bytes text m) (name_bytes text n) ≡ (r == s)
  same_names m n r s is too =
      same_tests (bytes_eq (name_bytes text m) (name_bytes text n)) (r == s)
      (λ h. eq-eqb r s (one_value (numbered names text n) r s (ap (number_of names) (sym (same_bytes _ _ h)) ∙ is) too))
      (λ h. bytes_same _ _ (one_value (slice_get (texts names) s) (name_bytes text m) (name_bytes text n)
      (ap (slice_get (texts names)) (sym (eqb-true r s h)) ∙ place_at (texts names) (name_bytes text m) r is)
      (place_at (texts names) (name_bytes text n) s too)))

  -- whatever two options hold
  abbrev Both : {A B : Type 0} → (A → B → Type 0) → Option A → Option B → Type 0
  Both R o p = Holds (λ a. Holds (R a) p) o

  mutual
    same_terms : (p q : SurfaceTermTree) →
        Both (λ t u. same_surface text p q ≡ same_tree t u) (numbered_term names text p) (numbered_term names text q)
    same_terms (bare m) (bare n) =
        map_holds _ _ (numbered names text m) (λ r r_is. map_holds _ _ (numbered names text n) (λ s s_is. same_names m n r s r_is s_is))
    same_terms (bare m) (applied n qs) =
        map_holds _ _ (numbered names text m) (λ r r_is. then_holds _ _ (numbered names text n) (λ g g_is.
        map_holds _ _ (numbered_terms names text qs) (λ us us_are. refl)))
    same_terms (applied m ps) (bare n) =
        then_holds _ _ (numbered names text m) (λ f f_is. map_holds _ _ (numbered_terms names text ps) (λ ts ts_are.
        map_holds _ _ (numbered names text n) (λ s s_is. refl)))
    same_terms (applied m ps) (applied n qs) =
        let arguments = same_lists ps qs in
        then_holds _ _ (numbered names text m) (λ f f_is. map_holds _ _ (numbered_terms names text ps) (λ ts ts_are.
        then_holds _ _ (numbered names text n) (λ g g_is. map_holds _ _ (numbered_terms names text qs) (λ us us_are.
        λ i. same_names m n f g f_is g_is i && held _ _ us (held _ _ ts arguments ts_are) us_are i))))

    same_lists : (ps qs : SurfaceTermTrees) →
        Both (λ ts us. same_surfaces text ps qs ≡ same_trees ts us) (numbered_terms names text ps) (numbered_terms names text qs)
    same_lists no_surfaces no_surfaces = refl
    same_lists no_surfaces (more_surfaces q qs) =
        then_holds _ _ (numbered_term names text q) (λ u u_is. map_holds _ _ (numbered_terms names text qs) (λ us us_are. refl))
    same_lists (more_surfaces p ps) no_surfaces =
        then_holds _ _ (numbered_term names text p) (λ t t_is. map_holds _ _ (numbered_terms names text ps) (λ ts ts_are. refl))
    same_lists (more_surfaces p ps) (more_surfaces q qs) =
        let first = same_terms p q in
        let rest = same_lists ps qs in
        then_holds _ _ (numbered_term names text p) (λ t t_is. map_holds _ _ (numbered_terms names text ps) (λ ts ts_are.
        then_holds _ _ (numbered_term names text q) (λ u u_is. map_holds _ _ (numbered_terms names text qs) (λ us us_are.
        λ i. held _ _ u (held _ _ t first t_is) u_is i && held _ _ us (held _ _ ts rest ts_are) us_are i))))

  -- ---- equalities alike

  equality_at : (k : ℕ) → equality_in names ≡ Some k → slice_get (texts names) k ≡ Some (codes "eq")
  equality_at k is =
      let found = some_passes (slice_get names k) names_equality (found_is_equality names k is) in
      slice_get-map (λ (n : NameEntry). n.text) names k ∙ ap (option_map (λ (n : NameEntry). n.text)) found.1
      ∙ ap Some (sym (same_bytes (codes "eq") found.0.text (and_parts _ _ found.2).0))

  -- a test whose probe is an equality is one
  pub test_of_equality : (p : SurfaceTermTree) (t : ProbeTree) → numbered_test names text p ≡ Some t → IsEquality (equality_in names) t →
      is_equality_test text p ≡ true
  test_of_equality (bare at) t is equal = absurd (omega (arith, sym (one_argument at t is) ∙ equal.two))
  test_of_equality (applied at ps) t is equal =
      let a = test_parts at ps t is in
      let bytes : name_bytes text at ≡ codes "eq" =
      one_value (slice_get (texts names) t.predicate) (name_bytes text at) (codes "eq")
      (place_at (texts names) (name_bytes text at) t.predicate a.0) (equality_at t.predicate equal.predicate) in
      and_from (bytes_eq (name_bytes text at) (codes "eq")) (count_of_surfaces ps == 2) (bytes_same (name_bytes text at) (codes "eq") bytes)
      (eq-eqb (count_of_surfaces ps) 2 (count_alike ps t.arguments a.1 ∙ equal.two))

  -- and the probe of such a test is an equality
  pub equality_of_test : AreDistinct names → (p : SurfaceTermTree) (t : ProbeTree) → numbered_test names text p ≡ Some t →
      probe_fits names t ≡ true → is_equality_test text p ≡ true → IsEquality (equality_in names) t
  equality_of_test distinct (bare at) t is fits equal = absurd (false≢true equal)
  equality_of_test distinct (applied at ps) t is fits equal =
      let a = test_parts at ps t is in
      let parts = and_parts (bytes_eq (name_bytes text at) (codes "eq")) (count_of_surfaces ps == 2) equal in
      let two : count_of_terms t.arguments ≡ 2 = sym (count_alike ps t.arguments a.1) ∙ eqb-true (count_of_surfaces ps) 2 parts.1 in
      let named : is_name names t.predicate Predicate (count_of_terms t.arguments) ≡ true =
      (and_parts _ _ (and_parts _ _ fits).0).0 in
      let number : number_of names (codes "eq") ≡ Some t.predicate =
      ap (number_of names) (sym (same_bytes (name_bytes text at) (codes "eq") parts.0)) ∙ a.0 in
      record {
        predicate = sym (named_so names distinct t.predicate number (ap (is_name names t.predicate Predicate) (sym two) ∙ named)).0;
        two = two;
      }

  -- ---- an equality and its line

  abbrev pub IsEquated : PlacedLine → EquatedTree → Type 0
  IsEquated e x = (numbered_test names text e.test ≡ Some x.probe) × (e.step ≡ x.offset)

  abbrev pub AreEquated : List PlacedLine → List EquatedTree → Type 0
  AreEquated = Paired IsEquated

  pub are_equated : (es : List PlacedLine) (xs : List EquatedTree) → all_there (map (numbered_equated names text) es) ≡ Some xs →
      AreEquated es xs
  are_equated =
      paired_there IsEquated (numbered_equated names text) (λ e x is. held (IsEquated e) _ x
      (then_holds _ _ (numbered_test names text e.test) (λ p p_is. map_holds _ _ (small e.step) (λ n n_is.
      (p_is, small_same e.step n n_is)))) is)

  -- each test is one of equality
  abbrev pub AreEqualityTests : List PlacedLine → Type 0
  AreEqualityTests = AllByRecursion (λ e. is_equality_test text e.test ≡ true)

  -- a line of an equality that is one
  abbrev IsEqual : PlacedLine → EquatedTree → Type 0
  IsEqual e x = IsEquated e x × (is_equality_test text e.test ≡ true)

  same_equalities : (p q : SurfaceTermTree) (t u : ProbeTree) → numbered_test names text p ≡ Some t → numbered_test names text q ≡ Some u →
      is_equality_test text p ≡ true → is_equality_test text q ≡ true → same_surface text p q ≡ same_probe_tree t u
  same_equalities (bare m) q t u is too one other = absurd (false≢true one)
  same_equalities (applied m ps) (bare n) t u is too one other = absurd (false≢true other)
  same_equalities (applied m ps) (applied n qs) t u is too one other =
      let a = test_parts m ps t is in
      let b = test_parts n qs u too in
      λ i. same_names m n t.predicate u.predicate a.0 b.0 i
      && held _ _ u.arguments (held _ _ t.arguments (same_lists ps qs) a.1) b.1 i

  follow_alike : (d e : PlacedLine) (x y : EquatedTree) → IsEqual d x → IsEqual e y → may_follow text d e ≡ may_stand_behind x y
  follow_alike d e x y a b =
      let same = same_equalities d.test e.test x.probe y.probe a.0.0 b.0.0 a.1 b.1 in
      λ i. nat_lt (a.0.1 i) (b.0.1 i) || ((a.0.1 i == b.0.1 i) && not (same i))

  order_alike : {es : List PlacedLine} {xs : List EquatedTree} → Paired IsEqual es xs → are_in_order text es ≡ stand_in_order xs
  order_alike none = refl
  order_alike (next {x = d} {y = x} a rest) =
      λ i. all_alike (may_follow text d) (may_stand_behind x) (λ e y. follow_alike d e x y a) rest i && order_alike rest i

  -- the lines are in order where the equalities are
  pub in_order_alike : (es : List PlacedLine) (xs : List EquatedTree) → AreEquated es xs → AreEqualityTests es →
      are_in_order text es ≡ stand_in_order xs
  in_order_alike es xs are tests = order_alike (paired_with are tests)

  -- ---- from lines to equalities, and back

  pub tests_within : (n : ℕ) (es : List PlacedLine) → list_all (is_equality_within text n) es ≡ true → AreEqualityTests es
  tests_within n es h =
      each_weaker (λ e. is_equality_within text n e ≡ true) (λ e. is_equality_test text e.test ≡ true) (λ e within. search rules) es
      (each_from_list_all (is_equality_within text n) es h)

  within_alike : (n : ℕ) (es : List PlacedLine) (xs : List EquatedTree) → AreEquated es xs → AreEqualityTests es →
      list_all (is_equality_within text n) es ≡ list_all (λ x. nat_le x.offset n) xs
  within_alike n es xs are tests =
      all_alike (is_equality_within text n) (λ x. nat_le x.offset n)
      (λ e x a. (λ i. nat_le (a.0.1 i) n && a.1 i) ∙ and-true (nat_le x.offset n)) (paired_with are tests)

  pub offsets_within : (n : ℕ) (es : List PlacedLine) (xs : List EquatedTree) → AreEquated es xs →
      list_all (is_equality_within text n) es ≡ true → list_all (λ x. nat_le x.offset n) xs ≡ true
  offsets_within n es xs are h = sym (within_alike n es xs are (tests_within n es h)) ∙ h

  equality_tests : {es : List PlacedLine} {xs : List EquatedTree} → AreEquated es xs →
      AllByRecursion (λ x. IsEquality (equality_in names) x.probe) xs → AreEqualityTests es
  equality_tests none equal = tt
  equality_tests (next {x = e} {y = x} a rest) equal = (test_of_equality e.test x.probe a.0 equal.0, equality_tests rest equal.1)

  pub lines_within : (n : ℕ) (es : List PlacedLine) (xs : List EquatedTree) → AreEquated es xs →
      list_all (λ x. nat_le x.offset n) xs ≡ true → AllByRecursion (λ x. IsEquality (equality_in names) x.probe) xs →
      list_all (is_equality_within text n) es ≡ true
  lines_within n es xs are h equal = within_alike n es xs are (equality_tests are equal) ∙ h
