-- Choices over numbers are choices of the formulas with these numbers: what is made of the ones is made of the others.
use Rattle.std.proofs.Common.{◌≡◌, ◌∙◌, ℕ, ◌<◌, ◌^◌, Bool, true, false, cond, not, ◌&&◌, ◌||◌, ◌==◌, nat_lt, nat_eq, List, [], ◌∷◌, ◌++◌}
use Rattle.std.proofs.Common.{map, filter, length, Option, Some, None, bit_and, bit_or, refl, sym, ap, subst}
use Rattle.std.specs.Prelude.{bit_xor, if◌then◌else◌}
use Rattle.std.specs.List.{list_any, filter_map, cons_option, AllByRecursion}
use Rattle.std.specs.Ordering.{nat_cmp}
use Rattle.std.specs.Int.Bits.{and_self, and_zero_l}
use Rattle.std.proofs.lemmas.List.{map-append, length-map}
use Rattle.std.proofs.lemmas.Cmp.{nat_cmp_total}
use Rattle.base_library.specs.Kept.{with_new}
use Rattle.std.proofs.lemmas.Bool.{or_right}
use Rattle.std.proofs.lemmas.Option.{same_Some}
use Rattle.base_library.proofs.Each.{each_joined, each_filtered, each_left, each_right, each_weaker}
use Rattle.obligations.specs.Named.{formula_named, choice_named, IsWell}
use Rattle.ltl_formula.specs.LtlTree.{LtlTree, LtlTrees, top, bottom, bit, not_bit, conjunction, disjunction, next, until, release}
use Rattle.ltl_formula.specs.LtlTree.{no_formulas, more_formulas}
use Rattle.ltl_formula.specs.LtlOrder.{tree_cmp}
use Rattle.ltl_formula.specs.Increasing.{IsIncreasing, union}
use Rattle.ltl_formula.proofs.LtlOrderLaws.{tree_cmp_total, equal_trees}
use Rattle.ltl_formula.proofs.IncreasingLemmas.{rises-union, each-union, any-union}
use Rattle.obligations.specs.Choices.{most_choices, letter_bits, empty_choice, bit_choices, not_bit_choices, goes_on, puts_off, then_list}
use Rattle.obligations.specs.Choices.{is_within, same_choice, without_repeats, is_larger, without_larger, reduced, formed, joined, joins}
use Rattle.obligations.specs.Choices.{product}
use Rattle.obligations.specs.Expansion.{ChoiceTree, same_formula, expansion_by, all_choices_by, any_choices_by, choices_from, expansion}
use Rattle.obligations.specs.Numbers.{ChoiceKey, formula_number}
use Rattle.obligations.specs.Obligations.{obligations, obligations_of_all, reachable, closure_of}
use Rattle.obligations.proofs.FormulaNumbers.{is_named, numbered, same_itself, keeps_order, pointwise-named, subset-named}
use Rattle.obligations.proofs.SetLemmas.{union-map}
use Rattle.obligations.proofs.CubeJoins.{within_both}

module _ (names : List LtlTree) (rising : IsIncreasing tree_cmp names) where
  abbrev pub AreWell : List ChoiceKey → Type 0
  AreWell cs = AllByRecursion (IsWell names) cs

  abbrev pub named : ChoiceKey → ChoiceTree
  named c = choice_named names c

  -- the same answers, and choices whose numbers are those of formulas
  abbrev pub Agrees : Option (List ChoiceKey) → Option (List ChoiceTree) → Type 0
  Agrees None other = other ≡ None
  Agrees (Some cs) other = (other ≡ Some (map (choice_named names) cs)) × AllByRecursion (IsWell names) cs

  then_agree : (x : Option (List ChoiceKey)) (y : Option (List ChoiceTree)) (go : List ChoiceKey → Option (List ChoiceKey))
      (on : List ChoiceTree → Option (List ChoiceTree))
      → Agrees x y → ((cs : List ChoiceKey) → AreWell cs → Agrees (go cs) (on (map named cs))) → Agrees (then_list x go) (then_list y on)
  then_agree None y go on h each = ap (λ z. then_list z on) h
  then_agree (Some cs) y go on h each = subst (λ z. Agrees (go cs) (then_list z on)) (sym h.0) (each cs h.1)

  -- the tests of two choices
  same-named : (c d : ChoiceKey) → IsWell names c → IsWell names d → same_choice same_formula (named c) (named d) ≡ same_choice nat_eq c d
  same-named c d p q = λ k. (c.care == d.care) && ((c.want == d.want)
      && (pointwise-named names rising c.next_set d.next_set p.next_named q.next_named k
      && pointwise-named names rising c.postponed d.postponed p.postponed_named q.postponed_named k))

  pub within-named : (c d : ChoiceKey) → IsWell names c → IsWell names d → is_within same_formula (named c) (named d) ≡ is_within nat_eq c d
  within-named c d p q = λ k. (bit_and c.care d.care == c.care) && (bit_and d.want c.care == c.want)
      && subset-named names rising c.next_set d.next_set p.next_named q.next_named k
      && subset-named names rising c.postponed d.postponed p.postponed_named q.postponed_named k

  -- repeats
  kept-named : (kept : List ChoiceKey) (c : ChoiceKey) → AreWell kept → IsWell names c
      → list_any (λ k. same_choice same_formula (named c) k) (map named kept) ≡ list_any (λ k. same_choice nat_eq c k) kept
  kept-named [] c each p = refl
  kept-named (k ∷ kept) c each p = λ i. same-named c k p each.0 i || kept-named kept c each.1 p i

  new-named : (kept cs : List ChoiceKey) → AreWell kept → AreWell cs
      → (with_new (λ k c. same_choice same_formula c k) (map named kept) (map named cs)
      ≡ map named (with_new (λ k c. same_choice nat_eq c k) kept cs))
      × AreWell (with_new (λ k c. same_choice nat_eq c k) kept cs)
  new-named kept [] well each = (refl, well)
  new-named kept (c ∷ cs) well each =
      by (list_any (λ k. same_choice nat_eq c k) kept) (list_any (λ k. same_choice same_formula (named c) k) (map named kept))
      (kept-named kept c well each.0)
      (λ ks w. new-named ks cs w each.1)
    where
      by : (b d : Bool) → d ≡ b
          → ((ks : List ChoiceKey) → AreWell ks → (with_new (λ k c. same_choice same_formula c k) (map named ks) (map named cs)
          ≡ map named (with_new (λ k c. same_choice nat_eq c k) ks cs))
          × AreWell (with_new (λ k c. same_choice nat_eq c k) ks cs))
          → (with_new (λ k c. same_choice same_formula c k) (if d then map named kept else map named kept ++ named c ∷ []) (map named cs)
          ≡ map named (with_new (λ k c. same_choice nat_eq c k) (if b then kept else kept ++ c ∷ []) cs))
          × AreWell (with_new (λ k c. same_choice nat_eq c k) (if b then kept else kept ++ c ∷ []) cs)
      by true d e rest = let r = rest kept well in (
        ap (λ b. with_new (λ k c. same_choice same_formula c k) (if b then map named kept else map named kept ++ named c ∷ [])
            (map named cs)) e ∙ r.0,
        r.1,
      )
      by false d e rest = let r = rest (kept ++ c ∷ []) (each_joined (IsWell names) kept (c ∷ []) well (each.0, tt)) in (
        ap (λ b. with_new (λ k c. same_choice same_formula c k) (if b then map named kept else map named kept ++ named c ∷ [])
            (map named cs)) e
            ∙ ap (λ ks. with_new (λ k c. same_choice same_formula c k) ks (map named cs)) (sym (map-append named kept (c ∷ []))) ∙ r.0,
        r.1,
      )

  -- larger choices
  larger-named : (cs : List ChoiceKey) (c : ChoiceKey) → AreWell cs → IsWell names c →
      is_larger same_formula (map named cs) (named c) ≡ is_larger nat_eq cs c
  larger-named [] c each p = refl
  larger-named (d ∷ cs) c each p = λ k. (within-named d c each.0 p k && not (same-named d c each.0 p k)) || larger-named cs c each.1 p k

  filter-named : (p : ChoiceTree → Bool) (q : ChoiceKey → Bool) → ((c : ChoiceKey) → IsWell names c → p (named c) ≡ q c)
      → (cs : List ChoiceKey) → AreWell cs → filter p (map named cs) ≡ map named (filter q cs)
  filter-named p q same [] each = refl
  filter-named p q same (c ∷ cs) each = by (q c) (p (named c)) (same c each.0) (filter-named p q same cs each.1)
    where
      by : (b d : Bool) → d ≡ b → filter p (map named cs) ≡ map named (filter q cs)
          → cond d (named c ∷ filter p (map named cs)) (filter p (map named cs)) ≡ map named (cond b (c ∷ filter q cs) (filter q cs))
      by true d e rest = ap (λ b. cond b (named c ∷ filter p (map named cs)) (filter p (map named cs))) e ∙ ap (λ r. named c ∷ r) rest
      by false d e rest = ap (λ b. cond b (named c ∷ filter p (map named cs)) (filter p (map named cs))) e ∙ rest

  pub reduced-named : (cs : List ChoiceKey) → AreWell cs → (reduced same_formula (map named cs) ≡ map named (reduced nat_eq cs))
      × AreWell (reduced nat_eq cs)
  reduced-named cs each =
      let new = new-named [] cs tt each in
      let ds : List ChoiceKey = without_repeats nat_eq cs in (
        ap (without_larger same_formula) new.0
            ∙ filter-named (λ c. not (is_larger same_formula (map named ds) c)) (λ c. not (is_larger nat_eq ds c))
            (λ c p. ap not (larger-named ds c new.1 p)) ds new.1,
        each_filtered (IsWell names) (λ c. not (is_larger nat_eq ds c)) ds new.1,
      )

  -- repeats that are dropped leave choices as they are
  pub repeats_well : (cs : List ChoiceKey) → AllByRecursion (IsWell names) cs → AllByRecursion (IsWell names) (without_repeats nat_eq cs)
  repeats_well cs each = (new-named [] cs tt each).1

  formed_agree : (cs : List ChoiceKey) → AreWell cs → Agrees (formed nat_eq cs) (formed same_formula (map named cs))
  formed_agree cs each =
      subst (λ n. Agrees (formed nat_eq cs) (cond (nat_lt most_choices n) None (Some (reduced same_formula (map named cs)))))
      (sym (length-map cs named))
      (by (nat_lt most_choices (length cs)))
    where
      by : (b : Bool) → Agrees (cond b None (Some (reduced nat_eq cs))) (cond b None (Some (reduced same_formula (map named cs))))
      by true = refl
      by false = let r = reduced-named cs each in (ap Some r.0, r.1)

  -- joins
  set-named : (xs ys : List ℕ) → AllByRecursion (λ n. n < length names) xs → AllByRecursion (λ n. n < length names) ys
      → map (formula_named names) (union nat_cmp xs ys) ≡ union tree_cmp (map (formula_named names) xs) (map (formula_named names) ys)
  set-named = union-map nat_cmp tree_cmp (formula_named names) (λ n. n < length names) (keeps_order names rising)

  abbrev pub join : ChoiceKey → ChoiceKey → ChoiceKey
  join c d = record {
    care = bit_or c.care d.care;
    want = bit_or c.want d.want;
    next_set = union nat_cmp c.next_set d.next_set;
    postponed = union nat_cmp c.postponed d.postponed;
  }

  pub join_well : (c d : ChoiceKey) → IsWell names c → IsWell names d → IsWell names (join c d)
  join_well c d p q = record {
    within = within_both c.care c.want d.care d.want p.within q.within;
    next_rises = rises-union nat_cmp nat_cmp_total c.next_set d.next_set p.next_rises;
    next_named = each-union nat_cmp (λ n. n < length names) c.next_set d.next_set p.next_named q.next_named;
    postponed_rises = rises-union nat_cmp nat_cmp_total c.postponed d.postponed p.postponed_rises;
    postponed_named = each-union nat_cmp (λ n. n < length names) c.postponed d.postponed p.postponed_named q.postponed_named;
  }

  pub join_named : (c d : ChoiceKey) → IsWell names c → IsWell names d
      → named (join c d) ≡ record {
        care = bit_or c.care d.care;
        want = bit_or c.want d.want;
        next_set = union tree_cmp (map (formula_named names) c.next_set) (map (formula_named names) d.next_set);
        postponed = union tree_cmp (map (formula_named names) c.postponed) (map (formula_named names) d.postponed);
      }
  join_named c d p q = λ k. record {
    care = bit_or c.care d.care;
    want = bit_or c.want d.want;
    next_set = set-named c.next_set d.next_set p.next_named q.next_named k;
    postponed = set-named c.postponed d.postponed p.postponed_named q.postponed_named k;
  }

  joined-named : (c d : ChoiceKey) (ts : List ChoiceTree) (ks : List ChoiceKey) → IsWell names c → IsWell names d →
      (ts ≡ map named ks) × AreWell ks
      → (cons_option (joined same_formula tree_cmp (named c) (named d)) ts ≡ map named (cons_option (joined nat_eq nat_cmp c d) ks))
      × AreWell (cons_option (joined nat_eq nat_cmp c d) ks)
  joined-named c d ts ks p q rest = by (bit_and (bit_xor c.want d.want) (bit_and c.care d.care) == 0)
    where
      by : (b : Bool)
          → (cons_option (cond b (Some (record {
            care = bit_or c.care d.care;
            want = bit_or c.want d.want;
            next_set = union tree_cmp (map (formula_named names) c.next_set) (map (formula_named names) d.next_set);
            postponed = union tree_cmp (map (formula_named names) c.postponed) (map (formula_named names) d.postponed);
          })) None) ts
          ≡ map named (cons_option (cond b (Some (join c d)) None) ks)) × AreWell (cons_option (cond b (Some (join c d)) None) ks)
      by true = ((λ k. sym (join_named c d p q) k ∷ rest.0 k), (join_well c d p q, rest.1))
      by false = rest

  each-named : (c : ChoiceKey) (ds : List ChoiceKey) → IsWell names c → AreWell ds
      → (filter_map (joined same_formula tree_cmp (named c)) (map named ds) ≡ map named (filter_map (joined nat_eq nat_cmp c) ds))
      × AreWell (filter_map (joined nat_eq nat_cmp c) ds)
  each-named c [] p each = (refl, tt)
  each-named c (d ∷ ds) p each = joined-named c d _ _ p each.0 (each-named c ds p each.1)

  pub joins-named : (cs ds : List ChoiceKey) → AreWell cs → AreWell ds
      → (joins same_formula tree_cmp (map named cs) (map named ds) ≡ map named (joins nat_eq nat_cmp cs ds))
      × AreWell (joins nat_eq nat_cmp cs ds)
  joins-named [] ds left right = (refl, tt)
  joins-named (c ∷ cs) ds left right =
      let first = each-named c ds left.0 right in
      let rest = joins-named cs ds left.1 right in (
        (λ k. first.0 k ++ rest.0 k) ∙ sym (map-append named (filter_map (joined nat_eq nat_cmp c) ds) (joins nat_eq nat_cmp cs ds)),
        each_joined (IsWell names) (filter_map (joined nat_eq nat_cmp c) ds) (joins nat_eq nat_cmp cs ds) first.1 rest.1,
      )

  product_agree : (cs ds : List ChoiceKey) → AreWell cs → AreWell ds →
      Agrees (product nat_eq nat_cmp cs ds) (product same_formula tree_cmp (map named cs) (map named ds))
  product_agree cs ds left right =
      let j = joins-named cs ds left right in
      subst (λ ts. Agrees (product nat_eq nat_cmp cs ds) (formed same_formula ts)) (sym j.0) (formed_agree (joins nat_eq nat_cmp cs ds) j.1)

  sum_agree : (cs ds : List ChoiceKey) → AreWell cs → AreWell ds →
      Agrees (formed nat_eq (cs ++ ds)) (formed same_formula (map named cs ++ map named ds))
  sum_agree cs ds left right =
      subst (λ ts. Agrees (formed nat_eq (cs ++ ds)) (formed same_formula ts)) (map-append named cs ds)
      (formed_agree (cs ++ ds) (each_joined (IsWell names) cs ds left right))

  -- a single choice of a number
  pub goes_on_agree : (n : ℕ) (f : LtlTree) → n < length names → formula_named names n ≡ f →
      Agrees (Some (goes_on n ∷ [])) (Some (goes_on f ∷ []))
  goes_on_agree n f within is = (
    (λ k. Some ((record { care = 0; want = 0; next_set = sym is k ∷ []; postponed = [] }) ∷ [])),
    (record { within = refl; next_rises = (tt, tt); next_named = (within, tt); postponed_rises = tt; postponed_named = tt }, tt),
  )

  pub puts_off_agree : (n : ℕ) (f : LtlTree) → n < length names → formula_named names n ≡ f →
      Agrees (Some (puts_off n ∷ [])) (Some (puts_off f ∷ []))
  puts_off_agree n f within is = (
    (λ k. Some ((record { care = 0; want = 0; next_set = sym is k ∷ []; postponed = sym is k ∷ [] }) ∷ [])),
    (
      record {
        within = refl;
        next_rises = (tt, tt);
        next_named = (within, tt);
        postponed_rises = (tt, tt);
        postponed_named = (within, tt);
      },
      tt,
    ),
  )

  pub empty_well : IsWell names empty_choice
  empty_well = record { within = refl; next_rises = tt; next_named = tt; postponed_rises = tt; postponed_named = tt }

  bit_agree : (b : ℕ) → Agrees (Some (bit_choices b)) (Some (bit_choices b))
  bit_agree b = by (nat_lt b letter_bits)
    where
      by : (l : Bool) → Agrees (Some (cond l ((record { care = 2 ^ b; want = 2 ^ b; next_set = []; postponed = [] }) ∷ []) []))
          (Some (cond l ((record { care = 2 ^ b; want = 2 ^ b; next_set = []; postponed = [] }) ∷ []) []))
      by true = (
        refl,
        (
          record { within = and_self (2 ^ b); next_rises = tt; next_named = tt; postponed_rises = tt; postponed_named = tt },
          tt,
        ),
      )
      by false = (refl, tt)

  not_bit_agree : (b : ℕ) → Agrees (Some (not_bit_choices b)) (Some (not_bit_choices b))
  not_bit_agree b = by (nat_lt b letter_bits)
    where
      by : (l : Bool) → Agrees (Some (cond l ((record { care = 2 ^ b; want = 0; next_set = []; postponed = [] }) ∷ []) (empty_choice ∷ [])))
          (Some (cond l ((record { care = 2 ^ b; want = 0; next_set = []; postponed = [] }) ∷ []) (empty_choice ∷ [])))
      by true = (
        refl,
        (
          record {
            within = and_zero_l (2 ^ b);
            next_rises = tt;
            next_named = tt;
            postponed_rises = tt;
            postponed_named = tt;
          },
          tt,
        ),
      )
      by false = (refl, (empty_well, tt))

  abbrev AreNamedAll : List LtlTree → Type 0
  AreNamedAll fs = AllByRecursion (λ f. is_named names f ≡ true) fs

  mutual
    pub expansion_agrees : (f : LtlTree) → AllByRecursion (λ g. is_named names g ≡ true) (obligations f)
        → Agrees (expansion_by nat_eq nat_cmp (formula_number names) f) (expansion f)
    expansion_agrees top has = (refl, (empty_well, tt))
    expansion_agrees bottom has = (refl, tt)
    expansion_agrees (bit b) has = bit_agree b
    expansion_agrees (not_bit b) has = not_bit_agree b
    expansion_agrees (conjunction fs) has = all_agree (empty_choice ∷ []) fs (empty_well, tt) has
    expansion_agrees (disjunction fs) has = any_agree [] fs tt has
    expansion_agrees (next f) has = let n = numbered names f has.0 in goes_on_agree (formula_number names f) f n.0 n.1
    expansion_agrees (until a b) has =
        let n = numbered names (until a b) has.0 in
        let own = puts_off_agree (formula_number names (until a b)) (until a b) n.0 n.1 in
        then_agree _ _ _ _ (expansion_agrees b (each_right (λ g. is_named names g ≡ true) (obligations a) (obligations b) has.1))
        (λ now well_now.
        then_agree _ _ _ _ (expansion_agrees a (each_left (λ g. is_named names g ≡ true) (obligations a) (obligations b) has.1))
        (λ later well_later.
        then_agree _ _ _ _ (with_own later (puts_off (formula_number names (until a b)) ∷ []) (puts_off (until a b) ∷ []) well_later own)
        (λ put_off well_put_off.
        sum_agree now put_off well_now well_put_off)))
      where
        with_own : (later own : List ChoiceKey) (own_formulas : List ChoiceTree) → AreWell later → Agrees (Some own) (Some own_formulas)
            → Agrees (product nat_eq nat_cmp later own) (product same_formula tree_cmp (map named later) own_formulas)
        with_own later own own_formulas well h =
            subst (λ ts. Agrees (product nat_eq nat_cmp later own) (product same_formula tree_cmp (map named later) ts))
            (sym (same_Some own_formulas (map named own) h.0))
            (product_agree later own well h.1)
    expansion_agrees (release a b) has =
        let n = numbered names (release a b) has.0 in
        let own = goes_on_agree (formula_number names (release a b)) (release a b) n.0 n.1 in
        then_agree _ _ _ _ (expansion_agrees b (each_right (λ g. is_named names g ≡ true) (obligations a) (obligations b) has.1))
        (λ held well_held.
        then_agree _ _ _ _ (expansion_agrees a (each_left (λ g. is_named names g ≡ true) (obligations a) (obligations b) has.1))
        (λ freed well_freed.
        then_agree _ _ _ _ (with_own freed (goes_on (formula_number names (release a b)) ∷ []) (goes_on (release a b) ∷ []) well_freed own)
        (λ ends well_ends.
        product_agree held ends well_held well_ends)))
      where
        with_own : (freed own : List ChoiceKey) (own_formulas : List ChoiceTree) → AreWell freed → Agrees (Some own) (Some own_formulas)
            → Agrees (formed nat_eq (freed ++ own)) (formed same_formula (map named freed ++ own_formulas))
        with_own freed own own_formulas well h =
            subst (λ ts. Agrees (formed nat_eq (freed ++ own)) (formed same_formula (map named freed ++ ts)))
            (sym (same_Some own_formulas (map named own) h.0))
            (sum_agree freed own well h.1)

    all_agree : (so_far : List ChoiceKey) (fs : LtlTrees) → AreWell so_far →
        AllByRecursion (λ g. is_named names g ≡ true) (obligations_of_all fs)
        → Agrees (all_choices_by nat_eq nat_cmp (formula_number names) so_far fs)
        (all_choices_by same_formula tree_cmp (λ f. f) (map named so_far) fs)
    all_agree so_far no_formulas well has = (refl, well)
    all_agree so_far (more_formulas f fs) well has =
        then_agree _ _ _ _ (expansion_agrees f (each_left (λ g. is_named names g ≡ true) (obligations f) (obligations_of_all fs) has))
        (λ cs well_cs.
        then_agree _ _ _ _ (product_agree so_far cs well well_cs) (λ more well_more.
        all_agree more fs well_more (each_right (λ g. is_named names g ≡ true) (obligations f) (obligations_of_all fs) has)))

    any_agree : (so_far : List ChoiceKey) (fs : LtlTrees) → AreWell so_far →
        AllByRecursion (λ g. is_named names g ≡ true) (obligations_of_all fs)
        → Agrees (any_choices_by nat_eq nat_cmp (formula_number names) so_far fs)
        (any_choices_by same_formula tree_cmp (λ f. f) (map named so_far) fs)
    any_agree so_far no_formulas well has = (refl, well)
    any_agree so_far (more_formulas f fs) well has =
        then_agree _ _ _ _ (expansion_agrees f (each_left (λ g. is_named names g ≡ true) (obligations f) (obligations_of_all fs) has))
        (λ cs well_cs.
        then_agree _ _ _ _ (sum_agree so_far cs well well_cs) (λ more well_more.
        any_agree more fs well_more (each_right (λ g. is_named names g ≡ true) (obligations f) (obligations_of_all fs) has)))

  -- the choices of a set whose members and what they may leave have numbers
  pub choices_agree : (so_far : List ChoiceKey) (fs : List LtlTree) → AllByRecursion (IsWell names) so_far
      → AllByRecursion (λ f. AllByRecursion (λ g. is_named names g ≡ true) (obligations f)) fs
      → Agrees (choices_from nat_eq nat_cmp (formula_number names) so_far fs)
      (choices_from same_formula tree_cmp (λ f. f) (map (choice_named names) so_far) fs)
  choices_agree so_far [] well has = (refl, well)
  choices_agree so_far (f ∷ fs) well has =
      then_agree _ _ _ _ (expansion_agrees f has.0) (λ cs well_cs.
      then_agree _ _ _ _ (product_agree so_far cs well well_cs) (λ more well_more. choices_agree more fs well_more has.1))

-- the formulas that are named and what they may leave have numbers
passes_here : (p : LtlTree → Bool) (x : LtlTree) (xs : List LtlTree) → p x ≡ true → list_any p (x ∷ xs) ≡ true
passes_here p x xs is = rw is refl

each_is_among : (fs : List LtlTree) → AllByRecursion (λ f. is_named fs f ≡ true) fs
each_is_among [] = tt
each_is_among (f ∷ fs) = (
  passes_here (λ g. same_formula g f) f fs (same_itself f),
  each_weaker (λ g. is_named fs g ≡ true) (λ g. is_named (f ∷ fs) g ≡ true) (λ g is. or_right (same_formula f g) (is_named fs g) is) fs
      (each_is_among fs),
)

names_have : (fs : List LtlTree) → AllByRecursion (λ f. is_named (union tree_cmp [] fs) f ≡ true) fs
names_have fs =
    each_weaker (λ f. is_named fs f ≡ true) (λ f. is_named (union tree_cmp [] fs) f ≡ true)
    (λ f is. any-union tree_cmp equal_trees (λ g. same_formula g f) [] fs ∙ is) fs (each_is_among fs)

split_reachable : (P : LtlTree → Type 0) (fs : List LtlTree) → AllByRecursion P (reachable fs) →
    AllByRecursion (λ f. P f × AllByRecursion P (obligations f)) fs
split_reachable P [] each = tt
split_reachable P (f ∷ fs) each = (
  (each.0, each_left P (obligations f) (reachable fs) each.1),
  split_reachable P fs (each_right P (obligations f) (reachable fs) each.1),
)

pub names_are_enough : (fs : List LtlTree) → AllByRecursion (λ f. AllByRecursion (λ g. is_named (closure_of fs) g ≡ true)
    (obligations f)) fs
names_are_enough fs =
    each_weaker (λ f. (is_named (closure_of fs) f ≡ true) × AllByRecursion (λ g. is_named (closure_of fs) g ≡ true) (obligations f))
    (λ f. AllByRecursion (λ g. is_named (closure_of fs) g ≡ true) (obligations f)) (λ f both. both.1) fs
    (split_reachable (λ g. is_named (closure_of fs) g ≡ true) fs (names_have (reachable fs)))

pub names_rise : (fs : List LtlTree) → IsIncreasing tree_cmp (closure_of fs)
names_rise fs = rises-union tree_cmp tree_cmp_total [] (reachable fs) tt
