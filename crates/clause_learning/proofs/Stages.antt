-- The clause of an analysis has one literal of the present level in the end.
use Rattle.std.proofs.Common.{◌≡◌, ℕ, suc, ◌+◌, ◌<◌, ◌≤◌, Bool, true, false, not, cond, ◌||◌, List, [], ◌∷◌, ◌++◌, take, Option, Some}
use Rattle.std.proofs.Common.{None, slice_get, sym, ap, ◌∙◌, subst, refl, arith, eqb, ltb, inl, inr, ◌⊎◌, MatchOption, max}
use Rattle.std.proofs.lemmas.Bool.{false≢true, or_cases, or_left, or_right, and_cases, and_parts, cases_Bool, cases_lt, eqb-true}
use Rattle.std.proofs.lemmas.Bool.{eqb-false, ltb-true, ltb-false, le-ltb, lt-ltb, cond-true, cond-false}
use Rattle.std.proofs.lemmas.Option.{same_Some}
use Rattle.std.specs.Prelude.{nat_lt, IfSome}
use Rattle.base_library.proofs.Places.{slice_get-take}
use Rattle.clause_core.specs.Literals.{Lit, negation, same, has}
use Rattle.clause_core.proofs.Sets.{same_from, negation-negation, has-append}
use Rattle.sat_trail.specs.declared.entries.Entry.{Entry}
use Rattle.sat_trail.specs.Entries.{literals_of, level_of, place_of, IsForced}
use Rattle.sat_trail.specs.States.{TrailState, IsSound}
use Rattle.sat_trail.proofs.TrailSteps.{has_one, has_not_false}
use Rattle.sat_trail.proofs.Places.{AreApart, place_of_entry, has_entry, unset_has}
use Rattle.sat_trail.proofs.Soundness.{apart_from, level_at_next, levels_rise, level_within}
use Rattle.clause_learning.specs.declared.analysis.Analysis.{Analysis}
use Rattle.clause_learning.specs.Levels.{IsSetAt}
use Rattle.clause_learning.specs.ConflictAnalysis.{is_seen, is_of_clause, count_at, AreSeen, must_go, MayStay, IsForcing, IsReplaced}
use Rattle.clause_learning.specs.ConflictAnalysis.{IsCleared, IsEarly, AssertsFirst, IsLate}
use Rattle.clause_learning.proofs.SeenEntries.{one_at, count_some, count_has, HasSeen, one_same, one_other, is_of_clause_from, without}
use Rattle.clause_learning.proofs.SeenEntries.{without_other, without_from, count_without}

-- ---- levels of entries

pub entry_levels : (t : TrailState) → IsSound t → (j k : ℕ) (d e : Entry) → slice_get t.entries j ≡ Some d →
    slice_get t.entries k ≡ Some e → j ≤ k → d.level ≤ e.level
entry_levels t sound j k d e at_j at_k h =
    let rise = levels_rise t.variables t.clauses t.entries sound.stand (suc j) (suc k) (omega arith) in
    omega (arith, rise, level_at_next t.entries j d at_j, level_at_next t.entries k e at_k)

pub entry_low : (t : TrailState) → IsSound t → (k : ℕ) (e : Entry) → slice_get t.entries k ≡ Some e → e.level ≤ t.level
entry_low t sound k e at = omega (arith, level_within t.variables t.clauses t.entries sound.stand k e at, sound.level_reached)

-- a decided entry is above those before it
pub decided_above : (t : TrailState) → IsSound t → (j k : ℕ) (d e : Entry) → slice_get t.entries j ≡ Some d →
    slice_get t.entries k ≡ Some e → j < k → e.reason ≡ None → d.level < e.level
decided_above t sound j k d e at_j at_k h none =
    let rise = levels_rise t.variables t.clauses t.entries sound.stand (suc j) k h in
    let is : e.level ≡ level_of (take k t.entries) + 1 = subst (λ (o : Option ℕ). MatchOption o (e.level ≡ level_of (take k t.entries) + 1)
    (λ number. (e.level ≡ level_of (take k t.entries)) × IsForced t.clauses (take k t.entries) number e.literal)) none
    (sound.stand k e at_k).cause in
    omega (arith, rise, level_at_next t.entries j d at_j, is)

pub decided_positive : (t : TrailState) → IsSound t → (k : ℕ) (e : Entry) → slice_get t.entries k ≡ Some e → e.reason ≡ None → 0 < e.level
decided_positive t sound k e at none =
    let is : e.level ≡ level_of (take k t.entries) + 1 = subst (λ (o : Option ℕ). MatchOption o (e.level ≡ level_of (take k t.entries) + 1)
    (λ number. (e.level ≡ level_of (take k t.entries)) × IsForced t.clauses (take k t.entries) number e.literal)) none
    (sound.stand k e at).cause in
    omega arith

pub forced_by : (t : TrailState) → IsSound t → (k : ℕ) (e : Entry) (reason : ℕ) → slice_get t.entries k ≡ Some e → e.reason ≡ Some reason →
    IsForced t.clauses (take k t.entries) reason e.literal
forced_by t sound k e reason at some =
    (subst (λ (o : Option ℕ). MatchOption o (e.level ≡ level_of (take k t.entries) + 1)
    (λ number. (e.level ≡ level_of (take k t.entries)) × IsForced t.clauses (take k t.entries) number e.literal)) some
    (sound.stand k e at).cause).1

-- an entry's literal is left of the clause that has it alone: its variable is not set before it
alone_forces : (t : TrailState) → IsSound t → (k : ℕ) (e : Entry) (number : ℕ) → slice_get t.entries k ≡ Some e →
    slice_get t.clauses number ≡ Some (e.literal ∷ []) → IsForced t.clauses (take k t.entries) number e.literal
alone_forces t sound k e number at alone = record {
  clause = e.literal ∷ [];
  named = alone;
  others_false = cond-true (not (has (literals_of (take k t.entries)) (negation e.literal))) (e.literal ∷ []) []
      (ap not (unset_has 0 (take k t.entries) (negation e.literal) (sound.stand k e at).unset));
}

pub forced_from : (t : TrailState) → IsSound t → (k : ℕ) (e : Entry) (number : ℕ) → slice_get t.entries k ≡ Some e →
    IsForcing t.clauses e number → IsForced t.clauses (take k t.entries) number e.literal
forced_from t sound k e number at forces = elim forces
    [ inl some ↦ forced_by t sound k e number at some | inr alone ↦ alone_forces t sound k e number at alone ]

-- ---- which entries are replaced

goes : (present waiting level : ℕ) → must_go present waiting level ≡ true → (level ≡ present) × (1 < waiting)
goes present waiting level h =
    let r = and_parts (eqb level present) (ltb 1 waiting) h in
    (eqb-true level present r.0, ltb-true 1 waiting r.1)

stays : (present waiting level : ℕ) → must_go present waiting level ≡ false → (level ≡ present → ⊥) ⊎ (waiting ≤ 1)
stays present waiting level h = elim (and_cases (eqb level present) (ltb 1 waiting) h)
    [ inl other ↦ inl (eqb-false level present other) | inr few ↦ inr (ltb-false 1 waiting few) ]

-- a clause that forces an entry of level 0, or none
pub replaced_at_start : (clauses : List (List Lit)) (present waiting : ℕ) (e : Entry) → e.level ≡ 0 → (o : Option ℕ) →
    MatchOption o (e.reason ≡ None) (IsForcing clauses e) → MatchOption o (MayStay present waiting e) (IsReplaced clauses present waiting e)
replaced_at_start clauses present waiting e start None h = inl h
replaced_at_start clauses present waiting e start (Some number) h = record { forces = h; why = inl start }

-- the reason of an entry that must go
pub replaced_there : (clauses : List (List Lit)) (present waiting : ℕ) (e : Entry) → must_go present waiting e.level ≡ true →
    (o : Option ℕ) → e.reason ≡ o → MatchOption o (MayStay present waiting e) (IsReplaced clauses present waiting e)
replaced_there clauses present waiting e goes_away None is = inl is
replaced_there clauses present waiting e goes_away (Some reason) is =
    record { forces = inl is; why = inr (inl (goes present waiting e.level goes_away)) }

-- the reason of an entry of a lower level, or none
pub replaced_below : (clauses : List (List Lit)) (present waiting : ℕ) (e : Entry) → 0 < e.level → e.level < present → (o : Option ℕ) →
    IfSome o (λ reason. e.reason ≡ Some reason) → MatchOption o (MayStay present waiting e) (IsReplaced clauses present waiting e)
replaced_below clauses present waiting e positive low None h = inr (positive, inl (λ is. omega (arith, is, low)))
replaced_below clauses present waiting e positive low (Some reason) h = record { forces = inl h; why = inr (inr low) }

-- an entry that is alone at its level
pub stays_there : (present waiting : ℕ) (e : Entry) → 0 < e.level → must_go present waiting e.level ≡ false → MayStay present waiting e
stays_there present waiting e positive left = inr (positive, stays present waiting e.level left)

-- ---- one entry is passed

module _ (t : TrailState) (sound : IsSound t) (q : ℕ) (e : Entry) (at : slice_get t.entries q ≡ Some e) (ms : ℕ → Bool)
    (entries_seen : ms q ≡ true) (ahead : (k : ℕ) → ms k ≡ true → k < q + 1) where
  -- where a seen entry of the present level waits, this one is of that level
  top_level : 0 < count_at t.level ms t.entries → e.level ≡ t.level
  top_level h =
      let r = count_some t.level ms t.entries h in
      omega (
        arith,
        entry_levels t sound r.place q r.entry e r.there at (let b = ahead r.place r.is_seen in omega arith),
        r.same_level,
        entry_low t sound q e at,
      )

  -- where two do, another one waits
  another_waits : 1 < count_at t.level ms t.entries → e.level ≡ t.level → HasSeen t.level (without ms q) t.entries
  another_waits h top = count_some t.level (without ms q) t.entries
      (left (count_at t.level (without ms q) t.entries) (one_at t.level true e) (count_at t.level ms t.entries)
      (count_without t.level ms (without ms q) t.entries q e at entries_seen (λ k. refl)) (one_same t.level e top) h)
    where
      left : (n x m : ℕ) → n + x ≡ m → x ≡ 1 → 1 < m → 0 < n
      left n x m s o h = omega arith

  -- and this one was forced
  crowded_forced : 1 < count_at t.level ms t.entries → e.reason ≡ None → ⊥
  crowded_forced h none =
      let r = another_waits h (top_level (omega arith)) in
      let o = without_from ms q r.place r.is_seen in
      let d = decided_above t sound r.place q r.entry e r.there at (let b = ahead r.place o.1 in let n = o.0 in omega arith) none in
      omega (arith, r.same_level, top_level (omega arith))

  pub ahead_cleared : (k : ℕ) → without ms q k ≡ true → k < q
  ahead_cleared k h = let r = without_from ms q k h in let b = ahead k r.1 in let n = r.0 in omega arith

  module _ (reason : ℕ) (forced : IsForced t.clauses (take q t.entries) reason e.literal) where
    -- the variables of the reason are set no later
    place_before : (l : Lit) (k : ℕ) → has forced.clause l ≡ true → place_of t.entries l.index ≡ Some k → k ≤ q
    place_before l k member placed =
        elim (cases_Bool (has (literals_of (take q t.entries)) (negation l))) [
          | inl y ↦ (let r = has_entry (take q t.entries) (negation l) y in
              let at_k = slice_get-take q t.entries r.0 r.1 r.2 in
              let is : k ≡ r.0 = same_Some k r.0 (sym placed ∙ (ap (place_of t.entries) (sym (ap (λ (z : Lit). z.index) r.3))
              ∙ place_of_entry t.entries r.0 r.1 (apart r.0 r.1 at_k.1) at_k.1)) in
              omega (arith, at_k.0))
          | inr n ↦ (let is_e : e.literal ≡ l = has_one e.literal l (ap (λ (ls : List Lit). has ls l) (sym forced.others_false)
              ∙ has_not_false (literals_of (take q t.entries)) forced.clause l member n) in
              let is : k ≡ q = same_Some k q (sym placed ∙ (ap (λ (z : Lit). place_of t.entries z.index) (sym is_e)
              ∙ place_of_entry t.entries q e (apart q e at) at)) in
              omega arith)
        ]
      where
        apart : AreApart t.entries
        apart = apart_from t.variables t.clauses t.entries sound.stand

    pub ahead_replaced : (k : ℕ) → without (λ j. ms j || is_of_clause t.entries forced.clause j) q k ≡ true → k < q
    ahead_replaced k h =
        let r = without_from (λ j. ms j || is_of_clause t.entries forced.clause j) q k h in
        let n = r.0 in
        elim (or_cases (ms k) (is_of_clause t.entries forced.clause k) r.1) [
          | inl m ↦ (let b = ahead k m in omega arith)
          | inr i ↦ (let o = is_of_clause_from t.entries forced.clause k i in
              let b = place_before o.literal k o.member o.placed in omega arith)
        ]

-- the opposite of an entry's literal stays
pub stage_kept : (t : TrailState) → IsSound t → (q : ℕ) (e : Entry) → slice_get t.entries q ≡ Some e → (w v : Analysis) → AreSeen t w.seen →
    is_seen w.seen q ≡ true → ((k : ℕ) → is_seen w.seen k ≡ true → k < q + 1) → IsCleared t q w.seen v.seen →
    v.kept.items ≡ w.kept.items ++ negation e.literal ∷ [] →
    v.back ≡ cond (nat_lt e.level t.level) (max w.back e.level) w.back → MayStay t.level w.seen.waiting e →
    IsEarly t w ⊎ IsLate t w → IsLate t v
stage_kept t sound q e at w v seen entries_seen ahead after kept back stays stage = elim stage
    [ inl early ↦ first early | inr late ↦ next late ]
  where
    counts : v.seen.waiting + one_at t.level true e ≡ w.seen.waiting
    counts = summed v.seen.waiting (count_at t.level (is_seen v.seen) t.entries) (one_at t.level true e)
        (count_at t.level (is_seen w.seen) t.entries) w.seen.waiting after.seen.counted
        (count_without t.level (is_seen w.seen) (is_seen v.seen) t.entries q e at entries_seen after.cleared) seen.counted
      where
        summed : (v n x m w : ℕ) → v ≡ n → n + x ≡ m → w ≡ m → v + x ≡ w
        summed v n x m w a s c = omega arith

    set_here : (l : Lit) (level : ℕ) → negation e.literal ≡ l → e.level ≡ level → IsSetAt t.entries (negation l) level
    set_here l level is h = record {
      place = q;
      entry = e;
      there = at;
      same_literal = sym (negation-negation e.literal)
          ∙ ap negation is;
      same_level = h;
    }

    first : IsEarly t w → IsLate t v
    first early =
        let top : e.level ≡ t.level = elim early.waits [
          | inl h ↦ top_level t sound q e at (is_seen w.seen) entries_seen ahead (omega (arith, seen.counted))
          | inr h ↦ (let low = entry_low t sound q e at in omega arith)
        ] in
        let positive : 0 < e.level = elim stays [
          | inl none ↦ decided_positive t sound q e at none
          | inr r ↦ r.0
        ] in
        let few : w.seen.waiting ≤ 1 = elim (cases_lt 1 w.seen.waiting) [
          | inl many ↦ elim stays [
            | inl none ↦ absurd (crowded_forced t sound q e at (is_seen w.seen) entries_seen ahead (omega (arith, seen.counted)) none)
            | inr r ↦ elim r.1 [ inl n ↦ absurd (n top) | inr h ↦ h ]
          ]
          | inr h ↦ h
        ] in
        let one = one_same t.level e top in
        let back_is : v.back ≡ w.back = back ∙ cond-false (nat_lt e.level t.level) (max w.back e.level) w.back
        (le-ltb e.level t.level (omega arith)) in
        record {
          alone = omega (arith, counts, one, few);
          asserts = record {
            asserted = negation e.literal;
            others = [];
            kept_is = kept ∙ ap (λ (ls : List Lit). ls ++ negation e.literal ∷ []) early.empty;
            last = set_here (negation e.literal) t.level refl top;
            lower = λ l h. absurd (false≢true h);
            below = omega (arith, back_is, early.low, top, positive);
            reached = λ h. absurd (omega (arith, back_is, early.low));
          };
        }

    next : IsLate t w → IsLate t v
    next late =
        let other : e.level ≡ t.level → ⊥ = λ top. (let h = count_has t.level (is_seen w.seen) t.entries q e entries_seen at top in omega
        (arith, seen.counted, late.alone)) in
        let low : e.level < t.level = (let h = entry_low t sound q e at in omega arith) in
        let none = one_other t.level true e other in
        let back_is : v.back ≡ max w.back e.level = back ∙ cond-true (nat_lt e.level t.level) (max w.back e.level) w.back
        (lt-ltb e.level t.level low) in
        record {
          alone = omega (arith, counts, none, late.alone);
          asserts = record {
            asserted = late.asserted;
            others = late.others ++ negation e.literal ∷ [];
            kept_is = kept ∙ ap (λ (ls : List Lit). ls ++ negation e.literal ∷ []) late.kept_is;
            last = late.last;
            lower = λ l h. elim (or_cases (has late.others l) (has (negation e.literal ∷ []) l)
                (sym (has-append late.others (negation e.literal ∷ []) l) ∙ h)) [
                  | inl there ↦ (let r = late.lower l there in (r.0, omega (arith, back_is, r.1), r.2))
                  | inr here ↦ (e.level, omega (arith, back_is), set_here l e.level (has_one (negation e.literal) l here) refl)
                ];
            below = omega (arith, back_is, low, late.below);
            reached = λ h. elim (cases_lt w.back e.level) [
              | inl more ↦ (
                negation e.literal,
                has-append late.others (negation e.literal ∷ []) (negation e.literal)
                    ∙ or_right (has late.others (negation e.literal)) (has (negation e.literal ∷ []) (negation e.literal))
                    (or_left (same (negation e.literal) (negation e.literal)) false
                    (same_from (negation e.literal) (negation e.literal) refl)),
                set_here (negation e.literal) v.back refl (omega (arith, back_is)),
              )
              | inr less ↦ (let r = late.reached (omega (arith, back_is)) in (
                r.0,
                has-append late.others (negation e.literal ∷ []) r.0
                    ∙ or_left (has late.others r.0) (has (negation e.literal ∷ []) r.0) r.1,
                subst (IsSetAt t.entries (negation r.0)) (let same_back : w.back ≡ v.back = omega (arith, back_is) in same_back) r.2,
              ))
            ];
          };
        }

-- the reason takes the place of an entry
pub stage_replaced : (t : TrailState) → IsSound t → (q : ℕ) (e : Entry) → slice_get t.entries q ≡ Some e → (w v : Analysis) →
    AreSeen t w.seen → is_seen w.seen q ≡ true → ((k : ℕ) → is_seen w.seen k ≡ true → k < q + 1) → AreSeen t v.seen →
    (reason : ℕ) (forced : IsForced t.clauses (take q t.entries) reason e.literal) →
    ((k : ℕ) → is_seen v.seen k ≡ without (λ j. is_seen w.seen j || is_of_clause t.entries forced.clause j) q k) →
    v.kept.items ≡ w.kept.items → v.back ≡ w.back → IsReplaced t.clauses t.level w.seen.waiting e reason →
    IsEarly t w ⊎ IsLate t w → IsEarly t v ⊎ IsLate t v
stage_replaced t sound q e at w v seen entries_seen ahead after reason forced cleared kept back replaced stage = elim stage
    [ inl early ↦ inl (still early) | inr late ↦ inr (later late) ]
  where
    still : IsEarly t w → IsEarly t v
    still early = record {
      empty = kept ∙ early.empty;
      low = back ∙ early.low;
      waits = elim replaced.why [
        | inl zero_level ↦ elim early.waits [
          | inl h ↦ (let top = top_level t sound q e at (is_seen w.seen) entries_seen ahead (omega (arith, seen.counted)) in inr
              (omega arith))
          | inr h ↦ inr h
        ]
        | inr (inr low) ↦ elim early.waits [
          | inl h ↦ (let top = top_level t sound q e at (is_seen w.seen) entries_seen ahead (omega (arith, seen.counted)) in
              absurd (omega arith))
          | inr h ↦ inr h
        ]
        | inr (inl crowded) ↦ inl (let r = another_waits t sound q e at (is_seen w.seen) entries_seen ahead
            (omega (arith, seen.counted, crowded.1)) crowded.0 in
            let o = without_from (is_seen w.seen) q r.place r.is_seen in
            let m = cleared r.place ∙ (without_other (λ j. is_seen w.seen j || is_of_clause t.entries forced.clause j) q r.place o.0
            ∙ or_left (is_seen w.seen r.place) (is_of_clause t.entries forced.clause r.place) o.1) in
            let h = count_has t.level (is_seen v.seen) t.entries r.place r.entry m r.there r.same_level in
            omega (arith, after.counted, h))
      ];
    }

    later : IsLate t w → IsLate t v
    later late = record {
      alone = elim (cases_lt 0 v.seen.waiting) [
        | inl some ↦ absurd (none (count_some t.level (is_seen v.seen) t.entries (omega (arith, after.counted))))
        | inr h ↦ omega arith
      ];
      asserts = subst (AssertsFirst t v.kept.items) (sym back)
          (subst (λ (ls : List Lit). AssertsFirst t ls w.back) (sym kept) late.asserts);
    }
      where
        none : HasSeen t.level (is_seen v.seen) t.entries → ⊥
        none r =
            let before = ahead_replaced t sound q e at (is_seen w.seen) entries_seen ahead reason forced r.place
            (sym (cleared r.place) ∙ r.is_seen) in
            let low = entry_levels t sound r.place q r.entry e r.there at (omega arith) in
            elim replaced.why [
              | inl zero_level ↦ omega (arith, low, r.same_level, late.below)
              | inr (inl crowded) ↦ omega (arith, crowded.1, late.alone)
              | inr (inr below) ↦ omega (arith, low, r.same_level, below)
            ]
