-- The cubes of an automaton ask for bits of its formula alone, and want no bit that they do not ask for.
use Rattle.std.proofs.Common.{◌≡◌, ℕ, ◌<◌, ◌^◌, ◌==◌, Bool, true, false, cond, not, List, [], ◌∷◌, ◌++◌, length, sym, subst}
use Rattle.std.proofs.Common.{Option, Some, None, nat_lt, bit_and, bit_or, if◌then◌else◌, arith}
use Rattle.std.specs.Prelude.{bit_xor}
use Rattle.std.specs.List.{AllByRecursion, filter_map, cons_option}
use Rattle.std.specs.Int.Bits.{and_self}
use Rattle.std.proofs.lemmas.Nat.{or_lt, pow_below, pow_pos, and_le_l}
use Rattle.base_library.specs.Kept.{with_new, is_kept}
use Rattle.base_library.proofs.Each.{each_at, each_joined, each_filtered, each_contained}
use Rattle.ltl_formula.specs.Increasing.{union}
use Rattle.ltl_formula.specs.LtlTree.{LtlTree, LtlTrees, top, bottom, bit, not_bit, conjunction, disjunction, next, until, release}
use Rattle.ltl_formula.specs.LtlTree.{no_formulas, more_formulas}
use Rattle.ltl_formula.specs.LtlOrder.{tree_cmp}
use Rattle.ltl_formula.specs.Cubes.{IsWithin}
use Rattle.ltl_formula.proofs.IncreasingLemmas.{each-union}
use Rattle.obligations.specs.Choices.{letter_bits, most_choices, empty_choice, bit_choices, not_bit_choices, goes_on, puts_off, then_list}
use Rattle.obligations.specs.Choices.{same_choice, is_larger, reduced, formed, joined, joins, product}
use Rattle.obligations.specs.Expansion.{ChoiceTree, same_formula, expansion, all_choices_by, any_choices_by, choices_from, choices}
use Rattle.obligations.proofs.CubeJoins.{within_both}
use Rattle.cobuchi_automata.specs.Automata.{StateTree, EdgeTree, IsReached, at_start, by_choice, IsAutomaton, IsOfChoice, untils_of}

-- ---- formulas whose bits are below a number

abbrev mutual
  pub IsBelow : ℕ → LtlTree → Type 0
  IsBelow n top = Unit {0}
  IsBelow n bottom = Unit {0}
  IsBelow n (bit b) = b < n
  IsBelow n (not_bit b) = b < n
  IsBelow n (conjunction fs) = AreBelow n fs
  IsBelow n (disjunction fs) = AreBelow n fs
  IsBelow n (next f) = IsBelow n f
  IsBelow n (until f g) = IsBelow n f × IsBelow n g
  IsBelow n (release f g) = IsBelow n f × IsBelow n g

  pub AreBelow : ℕ → LtlTrees → Type 0
  AreBelow n no_formulas = Unit {0}
  AreBelow n (more_formulas f fs) = IsBelow n f × AreBelow n fs

-- ---- choices that ask for such bits alone

pub record AsksBelow (n : ℕ) (c : ChoiceTree) : Type 0 where
  pub care : c.care < 2 ^ n
  pub within : IsWithin c.care c.want
  pub next : AllByRecursion (IsBelow n) c.next_set

-- what holds of two lists holds of the one with what is new of the other
each_new : {A : Type 0} (P : A → Type 0) (same : A → A → Bool) (kept xs : List A) → AllByRecursion P kept → AllByRecursion P xs →
    AllByRecursion P (with_new same kept xs)
each_new P same kept [] old new = old
each_new P same kept (x ∷ xs) old new =
    by (is_kept same kept x) (each_new P same kept xs old new.1)
    (each_new P same (kept ++ x ∷ []) xs (each_joined P kept (x ∷ []) old (new.0, tt)) new.1)
  where
    by : (b : Bool) → AllByRecursion P (with_new same kept xs) → AllByRecursion P (with_new same (kept ++ x ∷ []) xs) →
        AllByRecursion P (with_new same (if b then kept else kept ++ x ∷ []) xs)
    by true stays grows = stays
    by false stays grows = grows

module _ (n : ℕ) where
  abbrev Each : List ChoiceTree → Type 0
  Each cs = AllByRecursion (AsksBelow n) cs

  abbrev EachOf : Option (List ChoiceTree) → Type 0
  EachOf None = Unit {0}
  EachOf (Some cs) = Each cs

  then_each : (o : Option (List ChoiceTree)) (go : List ChoiceTree → Option (List ChoiceTree)) → EachOf o →
      ((cs : List ChoiceTree) → Each cs → EachOf (go cs)) → EachOf (then_list o go)
  then_each None go each more = tt
  then_each (Some cs) go each more = more cs each

  formed_each : (cs : List ChoiceTree) → Each cs → EachOf (formed same_formula cs)
  formed_each cs each =
      by (nat_lt most_choices (length cs))
      (each_filtered (AsksBelow n) (λ c. not (is_larger same_formula kept c)) kept
      (each_new (AsksBelow n) (λ k c. same_choice same_formula c k) [] cs tt each))
    where
      kept : List ChoiceTree
      kept = with_new (λ k c. same_choice same_formula c k) [] cs

      by : (b : Bool) → Each (reduced same_formula cs) → EachOf (cond b None (Some (reduced same_formula cs)))
      by true all = tt
      by false all = all

  both : (c d : ChoiceTree) → AsksBelow n c → AsksBelow n d → (ds : List ChoiceTree) → Each ds →
      Each (cons_option (joined same_formula tree_cmp c d) ds)
  both c d p q ds each = by (bit_and (bit_xor c.want d.want) (bit_and c.care d.care) == 0)
    where
      by : (b : Bool) → Each (cons_option (cond b (Some (record {
        care = bit_or c.care d.care;
        want = bit_or c.want d.want;
        next_set = union tree_cmp c.next_set d.next_set;
        postponed = union tree_cmp c.postponed d.postponed;
      })) None) ds)
      by true = (
        record {
          care = or_lt n c.care d.care p.care q.care;
          within = within_both c.care c.want d.care d.want p.within q.within;
          next = each-union tree_cmp (IsBelow n) c.next_set d.next_set p.next q.next;
        },
        each,
      )
      by false = each

  joined_each : (c : ChoiceTree) (ds : List ChoiceTree) → AsksBelow n c → Each ds → Each (filter_map (joined same_formula tree_cmp c) ds)
  joined_each c [] good each = tt
  joined_each c (d ∷ ds) good each =
      both c d good each.0 (filter_map (joined same_formula tree_cmp c) ds) (joined_each c ds good each.1)

  joins_each : (cs ds : List ChoiceTree) → Each cs → Each ds → Each (joins same_formula tree_cmp cs ds)
  joins_each [] ds left right = tt
  joins_each (c ∷ cs) ds left right =
      each_joined (AsksBelow n) (filter_map (joined same_formula tree_cmp c) ds) (joins same_formula tree_cmp cs ds)
      (joined_each c ds left.0 right) (joins_each cs ds left.1 right)

  product_each : (cs ds : List ChoiceTree) → Each cs → Each ds → EachOf (product same_formula tree_cmp cs ds)
  product_each cs ds left right = formed_each (joins same_formula tree_cmp cs ds) (joins_each cs ds left right)

  -- ---- the choices of formulas

  zero_within : (care : ℕ) → bit_and 0 care ≡ 0
  zero_within care = let less = and_le_l 0 care in omega (arith, less)

  asks_nothing : (set delayed : List LtlTree) → AllByRecursion (IsBelow n) set →
      AsksBelow n (record { care = 0; want = 0; next_set = set; postponed = delayed })
  asks_nothing set delayed below = record { care = pow_pos n; within = zero_within 0; next = below }

  bit_each : (b : ℕ) → b < n → Each (bit_choices b)
  bit_each b below = by (nat_lt b letter_bits)
    where
      by : (t : Bool) → Each (cond t ((record { care = 2 ^ b; want = 2 ^ b; next_set = []; postponed = [] }) ∷ []) [])
      by true = (record { care = pow_below b n below; within = and_self (2 ^ b); next = tt }, tt)
      by false = tt

  not_bit_each : (b : ℕ) → b < n → Each (not_bit_choices b)
  not_bit_each b below = by (nat_lt b letter_bits)
    where
      by : (t : Bool) → Each (cond t ((record { care = 2 ^ b; want = 0; next_set = []; postponed = [] }) ∷ []) (empty_choice ∷ []))
      by true = (record { care = pow_below b n below; within = zero_within (2 ^ b); next = tt }, tt)
      by false = (asks_nothing [] [] tt, tt)

  mutual
    expansion_each : (f : LtlTree) → IsBelow n f → EachOf (expansion f)
    expansion_each top below = (asks_nothing [] [] tt, tt)
    expansion_each bottom below = tt
    expansion_each (bit b) below = bit_each b below
    expansion_each (not_bit b) below = not_bit_each b below
    expansion_each (conjunction fs) below = all_each (empty_choice ∷ []) fs (asks_nothing [] [] tt, tt) below
    expansion_each (disjunction fs) below = any_each [] fs tt below
    expansion_each (next f) below = (asks_nothing (f ∷ []) [] (below, tt), tt)
    expansion_each (until a b) below =
        then_each (expansion b) _ (expansion_each b below.1) (λ now good_now.
        then_each (expansion a) _ (expansion_each a below.0) (λ later good_later.
        then_each (product same_formula tree_cmp later (puts_off (until a b) ∷ [])) _
        (product_each later (puts_off (until a b) ∷ []) good_later (asks_nothing (until a b ∷ []) (until a b ∷ []) (below, tt), tt))
        (λ put good_put. formed_each (now ++ put) (each_joined (AsksBelow n) now put good_now good_put))))
    expansion_each (release a b) below =
        then_each (expansion b) _ (expansion_each b below.1) (λ held good_held.
        then_each (expansion a) _ (expansion_each a below.0) (λ freed good_freed.
        then_each (formed same_formula (freed ++ goes_on (release a b) ∷ [])) _
        (formed_each (freed ++ goes_on (release a b) ∷ [])
        (each_joined (AsksBelow n) freed (goes_on (release a b) ∷ []) good_freed (asks_nothing (release a b ∷ []) [] (below, tt), tt)))
        (λ ends good_ends. product_each held ends good_held good_ends)))

    all_each : (so_far : List ChoiceTree) (fs : LtlTrees) → Each so_far → AreBelow n fs →
        EachOf (all_choices_by same_formula tree_cmp (λ f. f) so_far fs)
    all_each so_far no_formulas good below = good
    all_each so_far (more_formulas f fs) good below =
        then_each (expansion f) _ (expansion_each f below.0) (λ cs good_cs.
        then_each (product same_formula tree_cmp so_far cs) _ (product_each so_far cs good good_cs)
        (λ more good_more. all_each more fs good_more below.1))

    any_each : (so_far : List ChoiceTree) (fs : LtlTrees) → Each so_far → AreBelow n fs →
        EachOf (any_choices_by same_formula tree_cmp (λ f. f) so_far fs)
    any_each so_far no_formulas good below = good
    any_each so_far (more_formulas f fs) good below =
        then_each (expansion f) _ (expansion_each f below.0) (λ cs good_cs.
        then_each (formed same_formula (so_far ++ cs)) _ (formed_each (so_far ++ cs) (each_joined (AsksBelow n) so_far cs good good_cs))
        (λ more good_more. any_each more fs good_more below.1))

  choices_each : (so_far : List ChoiceTree) (set : List LtlTree) → Each so_far → AllByRecursion (IsBelow n) set →
      EachOf (choices_from same_formula tree_cmp (λ f. f) so_far set)
  choices_each so_far [] good below = good
  choices_each so_far (f ∷ set) good below =
      then_each (expansion f) _ (expansion_each f below.0) (λ cs good_cs.
      then_each (product same_formula tree_cmp so_far cs) _ (product_each so_far cs good good_cs)
      (λ more good_more. choices_each more set good_more below.1))

  set_each : (set : List LtlTree) (cs : List ChoiceTree) → AllByRecursion (IsBelow n) set → choices set ≡ Some cs → Each cs
  set_each set cs below is = subst EachOf is (choices_each (empty_choice ∷ []) set (asks_nothing [] [] tt, tt) below)

  -- ---- the states and the edges of an automaton

  module _ (f : LtlTree) (below : IsBelow n f) where
    reached_below : (s : StateTree) → IsReached f s → AllByRecursion (IsBelow n) s.set
    reached_below s at_start = (below, tt)
    reached_below s (by_choice before cs c reached are chosen) =
        (each_contained (AsksBelow n) cs c (set_each before.set cs (reached_below before reached) are) chosen).next

    pub edge_asks : (states : List StateTree) (edges : List EdgeTree) → IsAutomaton f states edges → (e : EdgeTree) →
        IsOfChoice (untils_of f) states e → (e.care < 2 ^ n) × IsWithin e.care e.want
    edge_asks states edges automaton e of =
        let reached = each_at (IsReached f) states e.from of.state automaton.reached of.here in
        let asks = each_contained (AsksBelow n) of.choices_here of.choice
        (set_each of.state.set of.choices_here (reached_below of.state reached) of.are_choices) of.chosen in
        subst (λ (d : EdgeTree). (d.care < 2 ^ n) × IsWithin d.care d.want) (sym of.is) (asks.care, asks.within)
