-- What is explored: with the state and the edge of one more choice, with one more state expanded, and when each state is.
use Rattle.std.proofs.Common.{◌≡◌, ◌∙◌, ℕ, zero, suc, ◌+◌, ◌-◌, ◌<◌, ◌≤◌, ◌⊎◌, inl, inr, Bool, true, false, ◌||◌, ◌==◌, nat_eq, cond, List, [], ◌∷◌, ◌++◌}
use Rattle.std.proofs.Common.{length, map, Some, slice_get, Contains, refl, sym, ap, subst, arith}
use Rattle.std.specs.Prelude.{option_map}
use Rattle.std.specs.List.{list_any, AllByRecursion}
use Rattle.std.specs.Option.{option_map_or}
use Rattle.std.specs.Cmp.Lexicographic.{pointwise}
use Rattle.std.proofs.lemmas.Bool.Decides.{eqb_tells}
use Rattle.std.proofs.lemmas.List.{length-map, map_push}
use Rattle.std.proofs.lemmas.Option.{slice_get-map, slice_get_within}
use Rattle.std.proofs.lemmas.Slice.Eq.{bytes_eq-Decides}
use Rattle.base_library.proofs.Each.{each_at, each_weaker}
use Rattle.base_library.proofs.Places.{slice_get_some, slice_get_one, slice_get_mapped, contains_at}
use Rattle.ltl_formula.specs.LtlTree.{LtlTree}
use Rattle.ltl_formula.specs.LtlOrder.{tree_cmp}
use Rattle.ltl_formula.specs.Increasing.{IsIncreasing}
use Rattle.ltl_formula.proofs.LtlOrderLaws.{equal_trees}
use Rattle.ltl_formula.proofs.IncreasingLemmas.{any-union}
use Rattle.obligations.specs.Expansion.{ChoiceTree, same_formula, choices}
use Rattle.obligations.specs.Numbers.{ChoiceKey, formula_number}
use Rattle.obligations.specs.Named.{formula_named, choice_named, IsWell}
use Rattle.obligations.specs.Obligations.{obligations, reachable}
use Rattle.obligations.proofs.FormulaNumbers.{is_named, numbered, keeps_same, pointwise-named, same_itself}
use Rattle.obligations.proofs.NamedChoices.{names_are_enough}
use Rattle.obligations.proofs.StepLemmas.{rising}
use Rattle.cobuchi_automata.specs.declared.build_error.BuildError.{BuildError}
use Rattle.cobuchi_automata.specs.declared.build_error.BuildError.TheVariants.{Choices, States, Edges, NoMemory}
use Rattle.cobuchi_automata.specs.Counters.{risen, passes_last, advanced}
use Rattle.cobuchi_automata.specs.Automata.{StateTree, EdgeTree, untils_of, is_postponed, start_state, state_after, edge_of, IsReached}
use Rattle.cobuchi_automata.specs.Automata.{at_start, by_choice, Leads, IsOfChoice, IsAutomaton}
use Rattle.cobuchi_automata.specs.Refusals.{HasBuildCause}
use Rattle.cobuchi_automata.specs.internal.Exploring.{StateKey, state_named, states_named, is_put_off, key_after, key_edge, Grows, Takes}
use Rattle.cobuchi_automata.specs.internal.Exploring.{IsChoiceRefusal, IsPlan, IsStateKey, IsExplored}
use Rattle.cobuchi_automata.proofs.CounterLemmas.{rises}
use Rattle.cobuchi_automata.proofs.GrowLemmas.{stays, has_stayed, longer, each_grows, once_grows, none_once, first_grows}
use Rattle.cobuchi_automata.proofs.TransitionLemmas.{too_many_edges}
use Rattle.cobuchi_automata.proofs.UntilLemmas.{each_until_of}

-- a counter stays within the number of untils
pub advanced_within : (untils : ℕ) (postponed : ℕ → Bool) (counter : ℕ) → counter ≤ untils → advanced untils postponed counter ≤ untils
advanced_within untils postponed counter within = by (passes_last untils postponed counter) (rises postponed (untils - counter) counter)
  where
    by : (b : Bool) → (counter ≤ risen postponed (untils - counter) counter)
        × (risen postponed (untils - counter) counter ≤ counter + (untils - counter))
        → cond b 0 (risen postponed (untils - counter) counter) ≤ untils
    by true range = omega arith
    by false range = omega (arith, range.1)

same_formulas : (fs : List LtlTree) → pointwise same_formula fs fs ≡ true
same_formulas [] = refl
same_formulas (f ∷ fs) = rw (same_itself f, same_formulas fs) refl

module _ (f : LtlTree) (names : List LtlTree) (untils : List ℕ) (plan : IsPlan f names untils) where
  abbrev us : List LtlTree
  us = untils_of f

  abbrev trees : List StateKey → List StateTree
  trees keys = states_named names keys

  names_rising : IsIncreasing tree_cmp names
  names_rising = rising (f ∷ []) names plan.named

  -- ---- untils and their numbers

  untils_named : AllByRecursion (λ u. is_named names u ≡ true) us
  untils_named = each_until_of (λ u. is_named names u ≡ true) f
      (subst (λ ns. AllByRecursion (λ h. is_named ns h ≡ true) (obligations f)) (sym plan.named) (names_are_enough (f ∷ [])).0)

  same_count : length untils ≡ length us
  same_count = ap length plan.numbered ∙ length-map us (formula_number names)

  put_off_among : (u : LtlTree) (ps : List ℕ) → is_named names u ≡ true → AllByRecursion (λ n. n < length names) ps
      → list_any (same_formula u) (map (formula_named names) ps) ≡ list_any (λ v. nat_eq (formula_number names u) v) ps
  put_off_among u [] is within = refl
  put_off_among u (p ∷ ps) is within =
      let n = numbered names u is in
      let here : same_formula u (formula_named names p) ≡ nat_eq (formula_number names u) p =
      ap (λ w. same_formula w (formula_named names p)) (sym n.1)
      ∙ keeps_same names names_rising (formula_number names u) p n.0 within.0 in
      λ k. here k || put_off_among u ps is within.1 k

  put_off_at : (vs : List LtlTree) (ps : List ℕ) → AllByRecursion (λ u. is_named names u ≡ true) vs
      → AllByRecursion (λ n. n < length names) ps → (n : ℕ)
      → option_map_or (λ u. list_any (same_formula u) (map (formula_named names) ps)) (slice_get vs n) false
      ≡ is_put_off (map (formula_number names) vs) ps n
  put_off_at [] ps is within n = refl
  put_off_at (v ∷ vs) ps is within zero = put_off_among v ps is.0 within
  put_off_at (v ∷ vs) ps is within (suc n) = put_off_at vs ps is.1 within n

  put_off_is : (c : ChoiceKey) → IsWell names c → (n : ℕ) → is_postponed us (choice_named names c) n ≡ is_put_off untils c.postponed n
  put_off_is c well n = put_off_at us c.postponed untils_named well.postponed_named n
      ∙ ap (λ ns. is_put_off ns c.postponed n) (sym plan.numbered)

  -- ---- states and edges over numbers and over formulas

  after_is : (k : StateKey) (c : ChoiceKey) → IsWell names c
      → state_after us (state_named names k) (choice_named names c) ≡ state_named names (key_after untils k.counter c)
  after_is k c well = λ i. record {
    set = map (formula_named names) c.next_set;
    counter = advanced (sym same_count i) (λ n. put_off_is c well n i) k.counter;
  }

  edge_is : (from : ℕ) (k : StateKey) (c : ChoiceKey) (to : ℕ) → IsWell names c
      → edge_of us from (state_named names k) (choice_named names c) to ≡ key_edge untils from k.counter c to
  edge_is from k c to well = λ i. record {
    from = from;
    care = c.care;
    want = c.want;
    to = to;
    rejecting = passes_last (sym same_count i) (λ n. put_off_is c well n i) k.counter;
  }

  key_after_named : (k : StateKey) (c : ChoiceKey) → IsStateKey names untils k → IsWell names c →
      IsStateKey names untils (key_after untils k.counter c)
  key_after_named k c key well = record {
    members_named = well.next_named;
    counts = advanced_within (length untils) (is_put_off untils c.postponed) k.counter key.counts;
  }

  apart : (j k : StateKey) → IsStateKey names untils j → IsStateKey names untils k → state_named names j ≡ state_named names k → j ≡ k
  apart j k p q same =
      let sets : map (formula_named names) j.members ≡ map (formula_named names) k.members = ap (λ s. s.set) same in
      let tells : pointwise nat_eq j.members k.members ≡ true =
      sym (pointwise-named names names_rising j.members k.members p.members_named q.members_named)
      ∙ ap (pointwise same_formula (map (formula_named names) j.members)) (sym sets)
      ∙ same_formulas (map (formula_named names) j.members) in
      let members : j.members ≡ k.members = (bytes_eq-Decides j.members k.members).0 tells in
      let counter : j.counter ≡ k.counter = ap (λ s. s.counter) same in
      λ i. record { members = members i; counter = counter i }

  place_named : (keys : List StateKey) (i : ℕ) (k : StateKey) → slice_get keys i ≡ Some k →
      slice_get (trees keys) i ≡ Some (state_named names k)
  place_named keys i k at = slice_get-map (state_named names) keys i ∙ ap (option_map (state_named names)) at

  grows_named : (old new : List StateKey) (k : StateKey) → AllByRecursion (IsStateKey names untils) old → IsStateKey names untils k
      → Grows old k new → Grows (trees old) (state_named names k) (trees new)
  grows_named old new k each key grows = record {
    grown = by grows.grown;
    there = (grows.there.0, place_named new grows.there.0 k grows.there.1);
  }
    where
      by : (new ≡ old) ⊎ (((i : ℕ) → slice_get old i ≡ Some k → ⊥) × (new ≡ old ++ k ∷ []))
          → (trees new ≡ trees old) ⊎ (((i : ℕ) → slice_get (trees old) i ≡ Some (state_named names k) → ⊥)
          × (trees new ≡ trees old ++ state_named names k ∷ []))
      by (inl same) = inl (ap trees same)
      by (inr more) = inr (
        λ i at.
            let m = slice_get_mapped (state_named names) old i (state_named names k) at in
            more.0 i (m.1 ∙ ap Some (apart m.0 k (each_at (IsStateKey names untils) old i m.0 each m.1) key m.2)),
        ap trees more.1 ∙ map_push (state_named names) old k,
      )

  -- ---- one more state, and one more edge

  leads_on : (states more : List StateTree) (edges more_edges : List EdgeTree)
      → ((i : ℕ) (s : StateTree) → slice_get states i ≡ Some s → slice_get more i ≡ Some s)
      → ((e : EdgeTree) → Contains edges e → Contains more_edges e) → (from : ℕ) (s : StateTree) (c : ChoiceTree)
      → Leads us states edges from s c → Leads us more more_edges from s c
  leads_on states more edges more_edges stay keep from s c l = record {
    to = l.to;
    there = stay l.to (state_after us s c) l.there;
    edge = keep (edge_of us from s c l.to) l.edge;
  }

  of_choice_on : (states more : List StateTree) → ((i : ℕ) (s : StateTree) → slice_get states i ≡ Some s → slice_get more i ≡ Some s)
      → (e : EdgeTree) → IsOfChoice us states e → IsOfChoice us more e
  of_choice_on states more stay e o = record {
    state = o.state;
    here = stay e.from o.state o.here;
    choices_here = o.choices_here;
    are_choices = o.are_choices;
    choice = o.choice;
    chosen = o.chosen;
    there = stay e.to (state_after us o.state o.choice) o.there;
    is = o.is;
  }

  abbrev Explored : ℕ → List StateKey → List EdgeTree → Type 0
  Explored n keys edges = IsExplored f names untils n keys edges

  with_state : (n : ℕ) (keys new : List StateKey) (edges : List EdgeTree) (k : StateKey) → Explored n keys edges
      → IsStateKey names untils k → IsReached f (state_named names k) → Grows keys k new → Explored n new edges
  with_state n keys new edges k x key reached grows =
      let grown = grows_named keys new k x.named key grows in
      let stay : (i : ℕ) (s : StateTree) → slice_get (trees keys) i ≡ Some s → slice_get (trees new) i ≡ Some s =
      stays (trees keys) (trees new) (state_named names k) grown in
      record {
        named = each_grows (IsStateKey names untils) keys new k grows x.named key;
        within = omega (arith, x.within, longer keys new k grows);
        start = stay 0 (start_state f) x.start;
        reached = each_grows (IsReached f) (trees keys) (trees new) (state_named names k) grown x.reached reached;
        once = once_grows (trees keys) (trees new) (state_named names k) grown x.once;
        leads = λ i s below at.
            let old = slice_get_some (trees keys) i (omega (arith, below, x.within, length-map keys (state_named names))) in
            let same : old.0 ≡ s = slice_get_one (trees new) i old.0 s (stay i old.0 old.1) at in
            let there = x.leads i s below (old.1 ∙ ap Some same) in (
              there.0,
              there.1,
              each_weaker (Leads us (trees keys) edges i s) (Leads us (trees new) edges i s)
                  (leads_on (trees keys) (trees new) edges edges stay (λ e had. had) i s) there.0 there.2,
            );
        of_choices = each_weaker (IsOfChoice us (trees keys)) (IsOfChoice us (trees new)) (of_choice_on (trees keys) (trees new) stay)
            edges x.of_choices;
        edges_once = x.edges_once;
      }

  with_edge : (n : ℕ) (keys : List StateKey) (edges new : List EdgeTree) (e : EdgeTree) → Explored n keys edges
      → IsOfChoice us (trees keys) e → Grows edges e new → Explored n keys new
  with_edge n keys edges new e x of_choice grows = record {
    named = x.named;
    within = x.within;
    start = x.start;
    reached = x.reached;
    once = x.once;
    leads = λ i s below at.
        let there = x.leads i s below at in (
          there.0,
          there.1,
          each_weaker (Leads us (trees keys) edges i s) (Leads us (trees keys) new i s)
              (leads_on (trees keys) (trees keys) edges new (λ j t at. at) (has_stayed edges new e grows) i s) there.0 there.2,
        );
    of_choices = each_grows (IsOfChoice us (trees keys)) edges new e grows x.of_choices of_choice;
    edges_once = once_grows edges new e grows x.edges_once;
  }

  -- ---- one more choice of the state that is expanded

  module _ (n : ℕ) (keys new : List StateKey) (edges new_edges : List EdgeTree) (k : StateKey) (cs : List ChoiceTree) (c : ChoiceKey)
      (x : Explored n keys edges) (here : slice_get keys n ≡ Some k) (are : choices (map (formula_named names) k.members) ≡ Some cs)
      (chosen : Contains cs (choice_named names c)) (well : IsWell names c) where
    next_reached : IsReached f (state_named names (key_after untils k.counter c))
    next_reached = subst (IsReached f) (after_is k c well)
        (by_choice (state_named names k) cs (choice_named names c)
        (each_at (IsReached f) (trees keys) n (state_named names k) x.reached (place_named keys n k here)) are chosen)

    next_key : IsStateKey names untils (key_after untils k.counter c)
    next_key = key_after_named k c (each_at (IsStateKey names untils) keys n k x.named here) well

    pub still_here : Grows keys (key_after untils k.counter c) new → slice_get new n ≡ Some k
    still_here grows = stays keys new (key_after untils k.counter c) grows n k here

    first : Grows keys (key_after untils k.counter c) new → Explored n new edges
    first grows = with_state n keys new edges (key_after untils k.counter c) x next_key next_reached grows

    led_there : (to : ℕ) → slice_get new to ≡ Some (key_after untils k.counter c) →
        slice_get (trees new) to ≡ Some (state_after us (state_named names k) (choice_named names c))
    led_there to at = place_named new to (key_after untils k.counter c) at ∙ ap Some (sym (after_is k c well))

    pub taken : Takes untils n k.counter c keys edges new new_edges → Explored n new new_edges
    taken t = with_edge n new edges new_edges (key_edge untils n k.counter c t.to) (first t.states)
        (record {
          state = state_named names k;
          here = place_named new n k (still_here t.states);
          choices_here = cs;
          are_choices = are;
          choice = choice_named names c;
          chosen = chosen;
          there = led_there t.to t.leads;
          is = sym (edge_is n k c t.to well);
        }) t.edges

    pub leads : Takes untils n k.counter c keys edges new new_edges →
        Leads us (trees new) new_edges n (state_named names k) (choice_named names c)
    leads t = record {
      to = t.to;
      there = led_there t.to t.leads;
      edge = subst (Contains new_edges) (sym (edge_is n k c t.to well))
          (contains_at new_edges t.edges.there.0 (key_edge untils n k.counter c t.to) t.edges.there.1);
    }

    -- what led on before still does
    pub still_leads : (ds : List ChoiceTree) → Takes untils n k.counter c keys edges new new_edges
        → AllByRecursion (Leads us (trees keys) edges n (state_named names k)) ds
        → AllByRecursion (Leads us (trees new) new_edges n (state_named names k)) ds
    still_leads ds t each =
        each_weaker (Leads us (trees keys) edges n (state_named names k)) (Leads us (trees new) new_edges n (state_named names k))
        (leads_on (trees keys) (trees new) edges new_edges
        (stays (trees keys) (trees new) (state_named names (key_after untils k.counter c))
        (grows_named keys new (key_after untils k.counter c) x.named next_key t.states))
        (has_stayed edges new_edges (key_edge untils n k.counter c t.to) t.edges) n (state_named names k)) ds each

    -- a choice that is not taken passes a limit
    pub refused : (e : BuildError) → IsChoiceRefusal untils n k.counter c keys edges new new_edges e → HasBuildCause f e
    refused Choices r = absurd r
    refused States r = let y = first r.0 in record {
      states = trees new;
      many = length-map new (state_named names) ∙ r.1;
      reached = y.reached;
      once = y.once;
    }
    refused Edges r = let y = taken r.0 in too_many_edges f (trees new) new_edges y.reached y.once y.of_choices y.edges_once r.1
    refused NoMemory r = tt

  -- ---- one more state that is expanded

  abbrev LeadsAll : List StateKey → List EdgeTree → ℕ → StateTree → Type 0
  LeadsAll keys edges i s = (ds : List ChoiceTree) × (choices s.set ≡ Some ds) × AllByRecursion (Leads us (trees keys) edges i s) ds

  pub expanded : (n : ℕ) (keys : List StateKey) (edges : List EdgeTree) (k : StateKey) (cs : List ChoiceTree) → Explored n keys edges
      → slice_get keys n ≡ Some k → choices (map (formula_named names) k.members) ≡ Some cs
      → AllByRecursion (Leads us (trees keys) edges n (state_named names k)) cs → Explored (n + 1) keys edges
  expanded n keys edges k cs x here are each = record {
    named = x.named;
    within = omega (arith, slice_get_within keys n k here);
    start = x.start;
    reached = x.reached;
    once = x.once;
    leads = λ i s below at. by i s below at (eqb_tells i n);
    of_choices = x.of_choices;
    edges_once = x.edges_once;
  }
    where
      by : (i : ℕ) (s : StateTree) → i < n + 1 → slice_get (trees keys) i ≡ Some s
          → (((i == n) ≡ true) × (i ≡ n)) ⊎ (((i == n) ≡ false) × (i ≡ n → ⊥)) → LeadsAll keys edges i s
      by i s below at (inl same) =
          let is : state_named names k ≡ s = slice_get_one (trees keys) n (state_named names k) s (place_named keys n k here)
          (ap (slice_get (trees keys)) (sym same.1) ∙ at) in
          subst (λ m. LeadsAll keys edges m s) (sym same.1) (subst (LeadsAll keys edges n) is (cs, are, each))
      by i s below at (inr other) = x.leads i s (omega (arith, other.1)) at

  pub finished : (n : ℕ) (keys : List StateKey) (edges : List EdgeTree) → length keys ≤ n → Explored n keys edges →
      IsAutomaton f (trees keys) edges
  finished n keys edges all x = record {
    start = x.start;
    reached = x.reached;
    once = x.once;
    leads = λ i s at.
        x.leads i s (omega (arith, all, slice_get_within (trees keys) i s at, length-map keys (state_named names))) at;
    of_choices = x.of_choices;
    edges_once = x.edges_once;
  }

  -- ---- the start

  formula_is_named : is_named names f ≡ true
  formula_is_named = subst (λ ns. is_named ns f ≡ true) (sym plan.named)
      (any-union tree_cmp equal_trees (λ g. same_formula g f) [] (reachable (f ∷ []))
      ∙ ap (λ b. b || list_any (λ g. same_formula g f) (obligations f ++ [])) (same_itself f))

  abbrev key : StateKey
  key = record { members = formula_number names f ∷ []; counter = 0 }

  pub started : (keys : List StateKey) (edges : List EdgeTree) → keys ≡ key ∷ [] → edges ≡ [] → Explored 0 keys edges
  started keys edges is none = subst (λ es. Explored 0 keys es) (sym none) (subst (λ ks. Explored 0 ks []) (sym is) (record {
    named = ((record { members_named = (own.0, tt); counts = omega arith }), tt);
    within = omega arith;
    start = ap Some start_is;
    reached = (subst (IsReached f) (sym start_is) at_start, tt);
    once = once_grows [] (state_named names key ∷ []) (state_named names key) (first_grows (state_named names key)) none_once;
    leads = λ i s below at. absurd (omega (arith, below));
    of_choices = tt;
    edges_once = none_once;
  }))
    where
      own : (formula_number names f < length names) × (formula_named names (formula_number names f) ≡ f)
      own = numbered names f formula_is_named

      start_is : state_named names key ≡ start_state f
      start_is = λ i. record { set = own.1 i ∷ []; counter = 0 }
