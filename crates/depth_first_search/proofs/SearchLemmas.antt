-- The walk through all numbers: what its steps keep.
use Rattle.std.proofs.Common.{◌≡◌, ◌∙◌, ℕ, zero, suc, ◌+◌, ◌<◌, ◌≤◌, ◌⊎◌, inl, inr, true, List, [], ◌∷◌, ◌++◌, length, set, take, min}
use Rattle.std.proofs.Common.{Some, None, Option, Vec, slice_get, reverse, refl, sym, ap, subst, arith, length-set, length-take-le}
use Rattle.std.specs.Prelude.{MatchOption}
use Rattle.std.proofs.lemmas.Bool.{cases_lt}
use Rattle.std.proofs.lemmas.Bool.Decides.{eqb_tells}
use Rattle.std.proofs.lemmas.List.{reverse-append, length-append}
use Rattle.std.proofs.lemmas.Option.{none-some, same_Some, slice_get_within}
use Rattle.base_library.specs.Numbers.{is_among}
use Rattle.base_library.proofs.Numbers.{among_at, among_place}
use Rattle.base_library.proofs.Places.{slice_get_some, slice_get_set, slice_get_set_same, slice_get-front, slice_get-behind, slice_get_push, slice_get_grown, slice_get-take, slice_get_taken}
use Rattle.depth_first_search.specs.Reaching.{one, more}
use Rattle.std.specs.declared.alloc.Global.{Global}
use Rattle.depth_first_search.specs.Graphs.{graph_of, goes, ReachesFrom, IsOrder, IsFirstOnCycle}
use Rattle.depth_first_search.specs.declared.searching.Step.{Step}
use Rattle.depth_first_search.specs.declared.searching.Search.{Search}
use Rattle.depth_first_search.specs.internal.Searches.{IsMet, IsOn, IsLooked, MayGo, lowered, IsTold, use_at, uses_count, ReachesOrIs, LeadsTo, IsOnPath, IsTower}
use Rattle.depth_first_search.specs.internal.Searches.{IsHolding, IsLeaving, IsSearchAt, IsWhole, HasGoneOn, new_left, path_left}
use Rattle.depth_first_search.proofs.GraphRows.{rows_count, goes_use, use_goes, use_within}
use Rattle.depth_first_search.proofs.Counted.{all_counted}

-- ---- what is met

none_met : (places : List (Option ℕ)) (v : ℕ) → slice_get places v ≡ Some None → IsMet places v → ⊥
none_met places v fresh (k, at) = none-some k (same_Some None (Some k) (sym fresh ∙ at))

pub met_more : (places : List (Option ℕ)) (v k i : ℕ) → slice_get places v ≡ Some None → IsMet places i → IsMet (set places v (Some k)) i
met_more places v k i fresh (m, at) =
    (m, slice_get_set places v i (Some k) (λ e. none_met places v fresh (m, ap (slice_get places) (sym e) ∙ at)) ∙ at)

pub met_new : (places : List (Option ℕ)) (v k : ℕ) → slice_get places v ≡ Some None → IsMet (set places v (Some k)) v
met_new places v k fresh = (k, slice_get_set_same places v (Some k) (slice_get_within places v None fresh))

met_cases : (places : List (Option ℕ)) (v k i : ℕ) → IsMet (set places v (Some k)) i → (v ≡ i) ⊎ IsMet places i
met_cases places v k i (m, at) = elim (eqb_tells v i) [
  | inl same ↦ inl same.1
  | inr apart ↦ inr (m, sym (slice_get_set places v i (Some k) (λ e. apart.1 (sym e))) ∙ at)
]

pub reversed_with : {X : Type 0} (xs : List X) (x : X) → reverse (xs ++ x ∷ []) ≡ x ∷ reverse xs
reversed_with xs x = reverse-append xs (x ∷ [])

-- ---- how many steps are left

fewer_new : (rows : List (List ℕ)) (places : List (Option ℕ)) (v k : ℕ) → slice_get places v ≡ Some None → length places ≡ length rows →
    new_left rows places ≡ uses_count rows v + 2 + new_left rows (set places v (Some k))
fewer_new rows [] v k fresh sizes = absurd (none-some None fresh)
fewer_new [] (p ∷ places) v k fresh sizes = absurd (omega (arith, sizes))
fewer_new (r ∷ rows) (None ∷ places) zero k fresh sizes = refl
fewer_new (r ∷ rows) (Some m ∷ places) zero k fresh sizes = absurd (none-some m (sym (same_Some (Some m) None fresh)))
fewer_new (r ∷ rows) (None ∷ places) (suc v) k fresh sizes = omega (arith, fewer_new rows places v k fresh (omega (arith, sizes)))
fewer_new (r ∷ rows) (Some m ∷ places) (suc v) k fresh sizes = fewer_new rows places v k fresh (omega (arith, sizes))

left_lowered : (low : ℕ) (path : List Step) → path_left (lowered low path) ≡ path_left path
left_lowered low [] = refl
left_lowered low (s ∷ path) = refl

module _ (graph : List (List ℕ)) where
  reach_both : (i j k : ℕ) → ReachesFrom graph i j → ReachesFrom graph j k → ReachesFrom graph i k
  reach_both i j k (one h) rest = more h rest
  reach_both i j k (more {y = m} h before) rest = more h (reach_both m j k before rest)

  then_or_is : (i j k : ℕ) → ReachesFrom graph i j → ReachesOrIs graph j k → ReachesFrom graph i k
  then_or_is i j k reach (inl same) = subst (ReachesFrom graph i) same reach
  then_or_is i j k reach (inr rest) = reach_both i j k reach rest

  or_is_then : (i j k : ℕ) → ReachesOrIs graph i j → ReachesFrom graph j k → ReachesFrom graph i k
  or_is_then i j k (inl same) reach = subst (λ m. ReachesFrom graph m k) (sym same) reach
  or_is_then i j k (inr before) reach = reach_both i j k before reach

  -- ---- the path

  on_held : (held : List ℕ) (bound : ℕ) (path : List Step) (i : ℕ) → IsTower graph held bound path → IsOn path i →
      (p : ℕ) × (p < bound) × (slice_get held p ≡ Some i)
  on_held held bound [] i is on = absurd on
  on_held held bound (s ∷ path) i is (inl same) = (s.place, is.0.within, is.0.here ∙ ap Some same)
  on_held held bound (s ∷ path) i is (inr on) =
      let it = on_held held s.place path i is.1 on in (it.0, omega (arith, it.1, is.0.within), it.2)

  looked_off : (path : List Step) (i k : ℕ) → (IsOn path i → ⊥) → IsLooked path i k
  looked_off [] i k off = tt
  looked_off (s ∷ path) i k off = (λ same. absurd (off (inl same)), looked_off path i k (λ on. off (inr on)))

  tower_alike : (held new : List ℕ) (limit : ℕ) → ((a i : ℕ) → a < limit → slice_get held a ≡ Some i → slice_get new a ≡ Some i) →
      ((a i : ℕ) → a < limit → slice_get new a ≡ Some i → slice_get held a ≡ Some i) → (path : List Step) (bound : ℕ) → bound ≤ limit →
      IsTower graph held bound path → IsTower graph new bound path
  tower_alike held new limit on off [] bound within is = is
  tower_alike held new limit on off (s ∷ path) bound within is = (
    record {
      within = is.0.within;
      few = is.0.few;
      here = on s.place s.number (omega (arith, is.0.within)) is.0.here;
      leads = λ a i below at. is.0.leads a i below (off a i (omega (arith, below)) at);
      back = λ j low at. is.0.back j low (off s.low j (omega (arith, low, is.0.within)) at);
    },
    tower_alike held new limit on off path s.place (omega (arith, is.0.within)) is.1,
  )

  -- it reaches one that is held before it: what is held from it on stays, below the one before it on the path
  joined : (places : List (Option ℕ)) (held : List ℕ) (s : Step) (path : List Step) → s.left ≡ 0 → s.low < s.place →
      IsHolding graph places held (s ∷ path) → IsHolding graph places held (lowered s.low path)
  joined places held s [] left low is = absurd (omega (arith, low, is.tower.1))
  joined places held s (p ∷ path) left low is = record {
    sizes = is.sizes;
    placed = is.placed;
    tower = (
      record {
        within = omega (arith, own.within, before.within);
        few = before.few;
        here = before.here;
        leads = λ a i below at. elim (cases_lt a s.place) [
          | inl less ↦ before.leads a i less at
          | inr past ↦ inr (or_is_then i s.number p.number (own.leads a i below at)
              (then_or_is s.number down.0 p.number (own.back down.0 (omega (arith, low)) down.1) (before.leads s.low down.0 low down.1)))
        ];
        back = λ j within at. elim (cases_lt s.low p.low) [
          | inl less ↦
              let same : min s.low p.low ≡ s.low = omega (arith, less) in
              or_is_then p.number s.number j (own.leads p.place p.number (omega (arith, before.within, own.within)) before.here)
              (own.back j (omega (arith, low)) (ap (slice_get held) (sym same) ∙ at))
          | inr past ↦
              let same : min s.low p.low ≡ p.low = omega (arith, past) in
              before.back j (omega (arith, within, same)) (ap (slice_get held) (sym same) ∙ at)
        ];
      },
      is.tower.1.1,
    );
    seen = λ i k j met looked used.
        let old = is.seen i k j met (λ same. omega (arith, left), looked) used in (
          old.0,
          λ m at.
              let it = old.1 m at in (
                it.0,
                it.1,
                (
                  λ above. elim (cases_lt it.0 s.place) [
                    | inl less ↦ omega (arith, (it.2.1 less).0 above)
                    | inr past ↦ omega (arith, it.2.0 past)
                  ],
                  λ below. let less : it.0 < s.place = omega (arith, below, before.within) in (it.2.1 less).1 below,
                ),
              ),
        );
  }
    where
      own : IsOnPath graph held (length held) s
      own = is.tower.0

      before : IsOnPath graph held s.place p
      before = is.tower.1.0

      down : (j : ℕ) × (slice_get held s.low ≡ Some j)
      down = slice_get_some held s.low (omega (arith, low, own.within))

  -- the last one of the path is changed in what was looked at
  leaves_changed : (places : List (Option ℕ)) (s : Step) (left low : ℕ) (path : List Step) (done : List ℕ) (least : Option ℕ) →
      IsLeaving graph places (s ∷ path) done least → IsLeaving graph places (record s { left = left; low = low } ∷ path) done least
  leaves_changed places s left low path done least is =
      record { all = is.all; only = is.only; once = is.once; told = is.told; first = is.first; earlier = is.earlier }

  leaves_lowered : (places : List (Option ℕ)) (low : ℕ) (path : List Step) (done : List ℕ) (least : Option ℕ) →
      IsLeaving graph places path done least → IsLeaving graph places (lowered low path) done least
  leaves_lowered places low [] done least is = is
  leaves_lowered places low (s ∷ path) done least is = leaves_changed places s s.left (min low s.low) path done least is

  -- ---- a number that was not met

  module _ (places : List (Option ℕ)) (s : Step) (path : List Step) (fresh : slice_get places s.number ≡ Some None) where
    pub entered : (held done : List ℕ) (least : Option ℕ) → s.place ≡ length held → s.left ≡ uses_count graph s.number → s.place < s.low →
        LeadsTo graph path s.number → IsSearchAt graph places held path done least →
        HasGoneOn graph places path (set places s.number (Some s.place)) (held ++ s.number ∷ []) (s ∷ path) done least
    entered held done least place left low goes_there is = record {
      search = record {
        holds = record {
          sizes = length-set places s.number _ ∙ is.holds.sizes;
          placed = λ k i at. elim (slice_get_push held s.number k i at) [
            | inl old ↦
                let before = is.holds.placed k i old.1 in
                slice_get_set places s.number i _ (λ e. none_met places s.number fresh (k, ap (slice_get places) (sym e) ∙ before)) ∙ before
            | inr new ↦
                subst (λ n. slice_get (set places s.number (Some s.place)) n ≡ Some (Some k)) new.1
                (slice_get_set_same places s.number (Some s.place) (slice_get_within places s.number None fresh)
                ∙ ap (λ n. Some (Some n)) (place ∙ sym new.0))
          ];
          tower = (
            record {
              within = omega (arith, place, length-append held (s.number ∷ []));
              few = omega (arith, left);
              here = ap (slice_get (held ++ s.number ∷ [])) place ∙ slice_get-behind held s.number [];
              leads = λ a i below at. elim (slice_get_push held s.number a i at) [
                | inl old ↦ inr (leads path is.holds.tower goes_there a i old.0 old.1)
                | inr new ↦ inl (sym new.1)
              ];
              back = λ j under at. absurd (omega (arith, low, under));
            },
            subst (λ n. IsTower graph (held ++ s.number ∷ []) n path) (sym place)
                (tower_alike held _ (length held) (λ a i below. slice_get_grown held (s.number ∷ []) a i)
                (λ a i below at. sym (slice_get-front held (s.number ∷ []) a below) ∙ at) path (length held) (omega arith) is.holds.tower),
          );
          seen = λ i k j met looked used. elim (met_cases places s.number _ i met) [
            | inl same ↦ absurd (omega (arith, looked.0 same, use_within graph i k j used, ap (uses_count graph) same, left))
            | inr before ↦
                let old = is.holds.seen i k j before looked.1 used in (
                  met_more places s.number _ j fresh old.0,
                  λ m at. elim (slice_get_push held s.number m j at) [
                    | inl there ↦
                        let it = old.1 m there.1 in (
                          it.0,
                          slice_get_grown held (s.number ∷ []) it.0 i it.1,
                          (λ above. absurd (omega (arith, above, place, slice_get_within held it.0 i it.1)), λ below. it.2),
                        )
                    | inr new ↦ absurd (none_met places s.number fresh (subst (IsMet places) (sym new.1) old.0))
                  ],
                )
          ];
        };
        leaves = record {
          all = λ i met. elim (met_cases places s.number _ i met) [
            | inl same ↦ inl (inl same)
            | inr before ↦ elim (is.leaves.all i before) [
              | inl on ↦ inl (inr on)
              | inr there ↦ inr there
            ]
          ];
          only = λ p i at.
              let old = is.leaves.only p i at in (
                met_more places s.number _ i fresh old.0,
                λ on. elim on [
                  | inl same ↦ none_met places s.number fresh (subst (IsMet places) (sym same) old.0)
                  | inr before ↦ old.1 before
                ],
              );
          once = is.leaves.once;
          told = is.leaves.told;
          first = is.leaves.first;
          earlier = is.leaves.earlier;
        };
      };
      met = λ i met. met_more places s.number s.place i fresh met;
      less = omega (arith, fewer_new graph places s.number s.place fresh is.holds.sizes, left);
    }
      where
        leads : (p : List Step) → IsTower graph held (length held) p → LeadsTo graph p s.number → (a i : ℕ) → a < length held →
            slice_get held a ≡ Some i → ReachesFrom graph i s.number
        leads [] none there a i below at = absurd (omega (arith, none, below))
        leads (t ∷ rest) tower there a i below at = or_is_then i t.number s.number (tower.0.leads a i below at) (one there)

  module _ (places : List (Option ℕ)) (held : List ℕ) (s : Step) (path : List Step) (done : List ℕ) (least : Option ℕ)
      (is : IsSearchAt graph places held (s ∷ path) done least) where
    last : IsOnPath graph held (length held) s
    last = is.holds.tower.0

    placed_here : slice_get places s.number ≡ Some (Some s.place)
    placed_here = is.holds.placed s.place s.number last.here

    -- ---- a use is looked at

    pub looked : (left low k j : ℕ) → suc left ≡ s.left → use_at graph s.number left ≡ Some j → slice_get places j ≡ Some (Some k) →
        low ≤ s.low → (slice_get held k ≡ Some j → low ≤ k) → (low ≡ s.low) ⊎ ((low ≡ k) × (slice_get held k ≡ Some j)) →
        HasGoneOn graph places (s ∷ path) places held (record s { left = left; low = low } ∷ path) done least
    looked left low k j one_less next place lower at_most one_of = record {
      search = record {
        holds = record {
          sizes = is.holds.sizes;
          placed = is.holds.placed;
          tower = (
            record {
              within = last.within;
              few = omega (arith, one_less, last.few);
              here = last.here;
              leads = last.leads;
              back = λ i below at. elim one_of [
                | inl same ↦ last.back i (omega (arith, same, below)) (ap (slice_get held) (sym same) ∙ at)
                | inr there ↦
                    subst (ReachesFrom graph s.number) (same_Some j i (sym there.1 ∙ ap (slice_get held) (sym there.0) ∙ at))
                    (one (use_goes graph s.number left j next))
              ];
            },
            is.holds.tower.1,
          );
          seen = λ i n h met looked used. elim (cases_lt n s.left) [
            | inl under ↦ elim (eqb_tells s.number i) [
              | inl same ↦
                  let now : n ≡ left = omega (arith, looked.0 same.1, under, one_less) in
                  let there = ap (λ m. use_at graph m left) same.1 ∙ ap (use_at graph i) (sym now) ∙ used in
                  let is_h : j ≡ h = same_Some j h (sym next ∙ there) in (
                    (k, ap (slice_get places) (sym is_h) ∙ place),
                    λ m at.
                        let there : slice_get held m ≡ Some j = at ∙ ap Some (sym is_h) in
                        let is_k : m ≡ k = same_Some m k (same_Some (Some m) (Some k) (sym (is.holds.placed m j there) ∙ place)) in (
                          s.place,
                          last.here ∙ ap Some same.1,
                          (λ above. omega (arith, is_k, at_most (rw is_k at there)), λ below. absurd (omega (arith, below))),
                        ),
                  )
              | inr apart ↦ before i n h met (λ same. absurd (apart.1 same)) looked.1 used
            ]
            | inr past ↦ before i n h met (λ same. past) looked.1 used
          ];
        };
        leaves = leaves_changed places s left low path done least is.leaves;
      };
      met = λ i met. met;
      less = omega (arith, one_less);
    }
      where
        before : (i n h : ℕ) → IsMet places i → (s.number ≡ i → s.left ≤ n) → IsLooked path i n → use_at graph i n ≡ Some h →
            IsMet places h × ((m : ℕ) → slice_get held m ≡ Some h →
            (a : ℕ) × (slice_get held a ≡ Some i) × MayGo (record s { left = left; low = low } ∷ path) a m)
        before i n h met own others used =
            let old = is.holds.seen i n h met (own, others) used in
            (old.0, λ m at. let it = old.1 m at in (it.0, it.1, (λ above. omega (arith, lower, it.2.0 above), it.2.1)))

    -- ---- a number is left

    module _ (left : s.left ≡ 0) where
      -- what is gone to from a number that is not before the last one is not before what that one reaches
      behind : (i j : ℕ) → ((a : ℕ) → slice_get held a ≡ Some i → s.place ≤ a) → IsMet places i → goes graph i j ≡ true →
          IsMet places j × ((m : ℕ) → slice_get held m ≡ Some j → s.low ≤ m)
      behind i j after met h =
          let used = goes_use graph i j h in
          let off : IsOn path i → ⊥ = λ on. let p = on_held held s.place path i is.holds.tower.1 on in omega (arith, p.1, after p.0 p.2) in
          let old = is.holds.seen i used.0 j met (λ same. omega (arith, left), looked_off path i used.0 off) used.1 in
          (old.0, λ m at. let it = old.1 m at in it.2.0 (after it.0 it.1))

      behind_all : (i j : ℕ) → s.place < s.low → ((a : ℕ) → slice_get held a ≡ Some i → s.place ≤ a) → IsMet places i →
          ReachesFrom graph i j → (m : ℕ) → slice_get held m ≡ Some j → s.low ≤ m
      behind_all i j low after met (one h) = (behind i j after met h).1
      behind_all i j low after met (more {y = n} h rest) =
          let next = behind i n after met h in behind_all n j low (λ a at. omega (arith, low, next.1 a at)) next.0 rest

      itself_at : (a : ℕ) → slice_get held a ≡ Some s.number → a ≡ s.place
      itself_at a at =
          same_Some a s.place (same_Some (Some a) (Some s.place) (sym (is.holds.placed a s.number at) ∙ placed_here))

      left_leaves : (now : Option ℕ) → IsTold s least now → IsLeaving graph places path (done ++ s.number ∷ []) now
      left_leaves now it = record {
        all = λ i met. elim (is.leaves.all i met) [
          | inl (inl same) ↦ inr (length done, slice_get-behind done s.number [] ∙ ap Some same)
          | inl (inr rest) ↦ inl rest
          | inr there ↦ inr (there.0, slice_get_grown done (s.number ∷ []) there.0 i there.1)
        ];
        only = λ p i at. elim (slice_get_push done s.number p i at) [
          | inl before ↦ let was = is.leaves.only p i before.1 in (was.0, λ on. was.1 (inr on))
          | inr new ↦
              subst (λ n. IsMet places n × (IsOn path n → ⊥)) new.1
              (own_met, λ on. let a = on_held held s.place path s.number is.holds.tower.1 on in omega (arith, a.1, itself_at a.0 a.2))
        ];
        once = λ a b i at_a at_b. elim (slice_get_push done s.number a i at_a) [
          | inl x ↦ elim (slice_get_push done s.number b i at_b) [
            | inl y ↦ is.leaves.once a b i x.1 y.1
            | inr y ↦ absurd ((is.leaves.only a i x.1).1 (inl y.1))
          ]
          | inr x ↦ elim (slice_get_push done s.number b i at_b) [
            | inl y ↦ absurd ((is.leaves.only b i y.1).1 (inl x.1))
            | inr y ↦ x.0 ∙ sym y.0
          ]
        ];
        told = λ i same. elim (cases_lt s.place s.low) [
          | inl low ↦ is.leaves.told i (it.same low ∙ same)
          | inr low ↦
              let here = it.first low in
              subst (λ n. (n < length graph) × ReachesFrom graph n n) (same_Some here.0 i (sym here.1 ∙ same)) (elim here.3 [
                | inl own ↦
                    subst (λ n. (n < length graph) × ReachesFrom graph n n) (sym own)
                    (omega (arith, slice_get_within places s.number _ own_met.1, is.holds.sizes), itself low)
                | inr was ↦ is.leaves.told here.0 was
              ])
        ];
        first = λ p i at reach. elim (slice_get_push done s.number p i at) [
          | inl before ↦
              let was = is.leaves.first p i before.1 reach in
              let here = it.before was.0 was.1 in (here.0, here.1, omega (arith, was.2, here.2))
          | inr new ↦ elim (cases_lt s.place s.low) [
            | inl low ↦ absurd (never low (subst (λ n. ReachesFrom graph n n) (sym new.1) reach))
            | inr low ↦ let here = it.first low in (here.0, here.1, omega (arith, here.2, new.1))
          ]
        ];
        earlier = λ none. elim (cases_lt s.place s.low) [
          | inl low ↦ λ p i j at h. elim (slice_get_push done s.number p i at) [
            | inl before ↦
                let was = is.leaves.earlier (it.same low ∙ none) p i j before.1 h in
                (was.0, was.1, slice_get_grown done (s.number ∷ []) was.0 j was.2)
            | inr new ↦
                let there = uses low j (ap (λ n. goes graph n j) new.1 ∙ h) in
                let less : there.0 < p = omega (arith, new.0, slice_get_within done there.0 j there.1) in
                (there.0, less, slice_get_grown done (s.number ∷ []) there.0 j there.1)
          ]
          | inr low ↦ let here = it.first low in absurd (none-some here.0 (sym none ∙ here.1))
        ];
      }
        where
          own_met : IsMet places s.number
          own_met = (s.place, placed_here)

          after : (a : ℕ) → slice_get held a ≡ Some s.number → s.place ≤ a
          after a at = omega (arith, itself_at a at)

          never : s.place < s.low → ReachesFrom graph s.number s.number → ⊥
          never low reach = omega (arith, low, behind_all s.number s.number low after own_met reach s.place last.here)

          itself : s.low ≤ s.place → ReachesFrom graph s.number s.number
          itself low =
              let inside : s.low < length held = omega (arith, low, last.within) in
              let there = slice_get_some held s.low inside in
              then_or_is s.number there.0 s.number (last.back there.0 low there.1) (last.leads s.low there.0 inside there.1)

          uses : s.place < s.low → (j : ℕ) → goes graph s.number j ≡ true → (p : ℕ) × (slice_get done p ≡ Some j)
          uses low j h =
              let next = behind s.number j after own_met h in
              elim (is.leaves.all j next.0) [
                | inl (inl same) ↦ absurd (omega (arith, low, next.1 s.place (last.here ∙ ap Some same)))
                | inl (inr rest) ↦
                    let a = on_held held s.place path j is.holds.tower.1 rest in absurd (omega (arith, low, a.1, next.1 a.0 a.2))
                | inr there ↦ there
              ]

      -- it reaches none that is held before it: what is held from it on is let go
      pub let_go : (now : Option ℕ) → IsTold s least now → s.place ≤ s.low →
          HasGoneOn graph places (s ∷ path) places (take s.place held) path (done ++ s.number ∷ []) now
      let_go now told low = record {
        search = record {
          holds = record {
            sizes = is.holds.sizes;
            placed = λ k i at. is.holds.placed k i (slice_get-take s.place held k i at).1;
            tower = subst (λ n. IsTower graph (take s.place held) n path) (sym (length-take-le s.place held (omega (arith, last.within))))
                (tower_alike held _ s.place (slice_get_taken s.place held) (λ a i below at. (slice_get-take s.place held a i at).1)
                path s.place (omega arith) is.holds.tower.1);
            seen = λ i k j met looked used.
                let old = is.holds.seen i k j met (λ same. omega (arith, left), looked) used in (
                  old.0,
                  λ m at.
                      let there = slice_get-take s.place held m j at in
                      let it = old.1 m there.1 in
                      let less : it.0 < s.place = grind (arith, it.2.0, there.0, low) in
                      (it.0, slice_get_taken s.place held it.0 i less it.1, it.2.1 less),
                );
          };
          leaves = left_leaves now told;
        };
        met = λ i met. met;
        less = omega arith;
      }

      -- it reaches one that is held before it, and so does the one before it on the path
      pub lowered_on : (now : Option ℕ) → IsTold s least now → s.low < s.place →
          HasGoneOn graph places (s ∷ path) places held (lowered s.low path) (done ++ s.number ∷ []) now
      lowered_on now told low = record {
        search = record {
          holds = joined places held s path left low is.holds;
          leaves = leaves_lowered places s.low path _ now (left_leaves now told);
        };
        met = λ i met. met;
        less = omega (arith, left_lowered s.low path);
      }

-- ---- the end

module _ (rows : List (Vec ℕ Global)) (w : Search) (is : IsWhole (graph_of rows) w) where
  there : (i : ℕ) → i < length (graph_of rows) → (p : ℕ) × (slice_get w.ranked.items p ≡ Some i)
  there i inside = elim (is.search.leaves.all i (is.met i inside)) [
    | inl on ↦ absurd (subst (λ path. IsOn (reverse path) i) is.path on)
    | inr at ↦ at
  ]

  pub whole_order : w.least ≡ None → IsOrder (graph_of rows) w.ranked.items
  whole_order none = record {
    all = all;
    once = is.search.leaves.once;
    count = all_counted w.ranked.items (length (graph_of rows)) is.search.leaves.once all within;
    within = within;
    earlier = is.search.leaves.earlier none;
  }
    where
      all : (i : ℕ) → i < length (graph_of rows) → is_among w.ranked.items i ≡ true
      all i inside = let at = there i inside in among_at w.ranked.items at.0 i at.1

      within : (i : ℕ) → is_among w.ranked.items i ≡ true → i < length (graph_of rows)
      within i among =
          let at = among_place w.ranked.items i among in
          let met = (is.search.leaves.only at.0 i at.1).0 in
          omega (arith, slice_get_within w.places.items i (Some met.0) met.1, is.search.holds.sizes)

  pub whole_first : MatchOption w.least ((i : ℕ) → i < length rows → ReachesFrom (graph_of rows) i i → ⊥) (IsFirstOnCycle (graph_of rows))
  whole_first = by w.least refl
    where
      told : (i : ℕ) → i < length rows → ReachesFrom (graph_of rows) i i → (j : ℕ) × (w.least ≡ Some j) × (j ≤ i)
      told i less reach = let at = there i (omega (arith, less, rows_count rows)) in is.search.leaves.first at.0 i at.1 reach

      by : (o : Option ℕ) → w.least ≡ o →
          MatchOption o ((i : ℕ) → i < length rows → ReachesFrom (graph_of rows) i i → ⊥) (IsFirstOnCycle (graph_of rows))
      by None none = λ i less reach. let it = told i less reach in none-some it.0 (sym none ∙ it.1)
      by (Some n) some =
          let it = is.search.leaves.told n some in
          record {
            within = it.0;
            reaches = it.1;
            first = λ i less reach.
                let that = told i (omega (arith, less, it.0, rows_count rows)) reach in
                omega (arith, less, same_Some n that.0 (sym some ∙ that.1), that.2);
          }
