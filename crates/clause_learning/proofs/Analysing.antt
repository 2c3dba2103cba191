-- An analysis from its beginning, over one entry after another, to what is learnt.
use Rattle.std.proofs.Common.{◌≡◌, ℕ, zero, suc, ◌+◌, ◌<◌, ◌≤◌, ◌-◌, Bool, true, false, not, cond, ◌||◌, List, [], ◌∷◌, ◌++◌, length, map}
use Rattle.std.proofs.Common.{Some, slice_get, sym, ap, ◌∙◌, subst, refl, arith, leb, inl, inr, ◌⊎◌, max}
use Rattle.std.specs.Prelude.{nat_lt, reverse}
use Rattle.std.proofs.lemmas.Bool.{true≢false, false≢true, or_cases, or_left, or_right, cases_lt, le-leb, leb-true}
use Rattle.std.proofs.lemmas.Option.{none-some, same_Some, slice_get_within}
use Rattle.std.proofs.lemmas.List.{reverse-append, length-reverse, length_push}
use Rattle.std.proofs.lemmas.List.Elements.{All-nil}
use Rattle.base_library.proofs.Places.{contains_at}
use Rattle.clause_learning.specs.Hints.{AreHints}
use Rattle.clause_core.specs.Literals.{Lit, negation, same, has}
use Rattle.clause_core.specs.Clauses.{in_order}
use Rattle.clause_core.specs.Propagation.{not_false}
use Rattle.clause_core.proofs.Sets.{same_is, same_from, negation-negation, has-in_order, IsIncreasing-in_order}
use Rattle.sat_trail.specs.declared.entries.Entry.{Entry}
use Rattle.sat_trail.specs.Entries.{literals_of}
use Rattle.sat_trail.specs.States.{TrailState, IsSound, IsFalseAt, up_to}
use Rattle.sat_trail.proofs.Places.{AreApart, has_entry, entry_has}
use Rattle.sat_trail.proofs.Soundness.{apart_from, length_entries}
use Rattle.clause_learning.specs.declared.analysis.Analysis.{Analysis}
use Rattle.clause_learning.specs.Levels.{IsSetAt, AreNoneFalseBelow}
use Rattle.clause_learning.specs.LearntClauses.{IsLearntClause, IsAsserting}
use Rattle.clause_learning.specs.ConflictAnalysis.{is_seen, is_of_clause, AreSeen, IsCleared, TakesPlace, MayStay, IsReplaced, Shows}
use Rattle.clause_learning.specs.ConflictAnalysis.{IsLate, IsAnalysis}
use Rattle.clause_learning.proofs.SeenEntries.{count_has, count_some, without_other}
use Rattle.clause_learning.proofs.Hints.{false_by, opposites_differ, has-map-negation, shows_start, shows_kept, shows_replaced, has_without}
use Rattle.clause_learning.proofs.HintLists.{hints_push, hints_reversed}
use Rattle.clause_learning.proofs.Stages.{forced_from, entry_low, stage_kept, stage_replaced, ahead_cleared, ahead_replaced}

-- ---- levels of the trail

pub up_to_has : (level : ℕ) (es : List Entry) (k : ℕ) (e : Entry) → slice_get es k ≡ Some e → e.level ≤ level →
    has (literals_of (up_to level es)) e.literal ≡ true
up_to_has level [] k e at h = absurd (none-some e at)
up_to_has level (x ∷ es) zero e at h =
    let is : x ≡ e = same_Some x e at in
    let here : leb x.level level ≡ true = le-leb x.level level (omega (arith, ap (λ (z : Entry). z.level) is)) in
    ap (λ (b : Bool). has (literals_of (cond b (x ∷ up_to level es) (up_to level es))) e.literal) here
    ∙ or_left (same x.literal e.literal) (has (literals_of (up_to level es)) e.literal)
    (same_from x.literal e.literal (ap (λ (z : Entry). z.literal) is))
up_to_has level (x ∷ es) (suc k) e at h = by_test (leb x.level level) (up_to_has level es k e at h)
  where
    by_test : (b : Bool) → has (literals_of (up_to level es)) e.literal ≡ true →
        has (literals_of (cond b (x ∷ up_to level es) (up_to level es))) e.literal ≡ true
    by_test true h = or_right (same x.literal e.literal) (has (literals_of (up_to level es)) e.literal) h
    by_test false h = h

-- what is set up to a level is set at one
pub up_to_from : (level : ℕ) (es : List Entry) (l : Lit) → has (literals_of (up_to level es)) l ≡ true →
    (j : ℕ) × (j ≤ level) × IsSetAt es l j
up_to_from level [] l h = absurd (false≢true h)
up_to_from level (x ∷ es) l h = by_test (leb x.level level) refl (up_to_from level es l) h
  where
    further : ((j : ℕ) × (j ≤ level) × IsSetAt es l j) → (j : ℕ) × (j ≤ level) × IsSetAt (x ∷ es) l j
    further r = (
      r.0,
      r.1,
      record {
        place = suc r.2.place;
        entry = r.2.entry;
        there = r.2.there;
        same_literal = r.2.same_literal;
        same_level = r.2.same_level;
      },
    )

    by_test : (b : Bool) → leb x.level level ≡ b → (has (literals_of (up_to level es)) l ≡ true → (j : ℕ) × (j ≤ level) × IsSetAt es l j) →
        has (literals_of (cond b (x ∷ up_to level es) (up_to level es))) l ≡ true → (j : ℕ) × (j ≤ level) × IsSetAt (x ∷ es) l j
    by_test true t later h = elim (or_cases (same x.literal l) (has (literals_of (up_to level es)) l) h) [
      | inl s ↦ (
        x.level,
        leb-true x.level level t,
        record {
          place = 0;
          entry = x;
          there = refl;
          same_literal = same_is x.literal l s;
          same_level = refl;
        },
      )
      | inr s ↦ further (later s)
    ]
    by_test false t later h = further (later h)

pub set_has : (es : List Entry) (l : Lit) (level : ℕ) → IsSetAt es l level → has (literals_of es) l ≡ true
set_has es l level s = entry_has es s.place s.entry l s.there s.same_literal

-- a clause that is false now and was not false at the level below has an entry of the present level
pub at_present : (t : TrailState) → IsSound t → (clause : List Lit) → 0 < t.level → (not_false (literals_of t.entries) clause ≡ []) →
    (not_false (literals_of (up_to (t.level - 1) t.entries)) clause ≡ [] → ⊥) →
    (l : Lit) × (has clause l ≡ true) × IsSetAt t.entries (negation l) t.level
at_present t sound clause positive is_false before = go clause is_false before
  where
    go : (ls : List Lit) → not_false (literals_of t.entries) ls ≡ [] →
        (not_false (literals_of (up_to (t.level - 1) t.entries)) ls ≡ [] → ⊥) →
        (l : Lit) × (has ls l ≡ true) × IsSetAt t.entries (negation l) t.level
    go [] f n = absurd (n refl)
    go (x ∷ xs) f n = by_tests (has (literals_of t.entries) (negation x))
        (has (literals_of (up_to (t.level - 1) t.entries)) (negation x)) refl refl (go xs) f n
      where
        by_tests : (a b : Bool) → has (literals_of t.entries) (negation x) ≡ a →
            has (literals_of (up_to (t.level - 1) t.entries)) (negation x) ≡ b →
            (not_false (literals_of t.entries) xs ≡ [] → (not_false (literals_of (up_to (t.level - 1) t.entries)) xs ≡ [] → ⊥) →
            (l : Lit) × (has xs l ≡ true) × IsSetAt t.entries (negation l) t.level) →
            cond (not a) (x ∷ not_false (literals_of t.entries) xs) (not_false (literals_of t.entries) xs) ≡ [] →
            (cond (not b) (x ∷ not_false (literals_of (up_to (t.level - 1) t.entries)) xs)
            (not_false (literals_of (up_to (t.level - 1) t.entries)) xs) ≡ [] → ⊥) →
            (l : Lit) × (has (x ∷ xs) l ≡ true) × IsSetAt t.entries (negation l) t.level
        by_tests false b p q later f n = absurd (filled f)
          where
            filled : x ∷ not_false (literals_of t.entries) xs ≡ [] → ⊥
            filled h = let e = ap length h in omega arith
        by_tests true true p q later f n = let r = later f n in (r.0, or_right (same x r.0) (has xs r.0) r.1, r.2)
        by_tests true false p q later f n =
            let r = has_entry t.entries (negation x) p in
            let low = entry_low t sound r.0 r.1 r.2 in
            let high : r.1.level ≤ t.level - 1 → ⊥ = λ h. true≢false (sym (up_to_has (t.level - 1) t.entries r.0 r.1 r.2 h)
            ∙ (ap (has (literals_of (up_to (t.level - 1) t.entries))) r.3 ∙ q)) in (
              x,
              or_left (same x x) (has xs x) (same_from x x refl),
              record {
                place = r.0;
                entry = r.1;
                there = r.2;
                same_literal = r.3;
                same_level = omega arith;
              },
            )

-- ---- the beginning

pub analysis_begins : (t : TrailState) → IsSound t → (conflict : ℕ) (false_at : IsFalseAt t conflict) → AreNoneFalseBelow t t.level → (w : Analysis) →
    AreSeen t w.seen → ((k : ℕ) → is_of_clause t.entries false_at.clause k ≡ true → is_seen w.seen k ≡ true) → w.kept.items ≡ [] →
    w.hints.items ≡ (conflict + 1) ∷ [] → w.back ≡ 0 → IsAnalysis t (length t.entries) w
analysis_begins t sound conflict false_at none_false w seen entries_seen kept hints back = record {
  seen = seen;
  ahead = seen.within;
  fresh = λ k e at below. ap (λ (ls : List Lit). has ls (negation e.literal)) kept;
  few = omega (arith, ap length hints);
  named = subst (AreHints (length t.clauses)) (sym hints) (hints_push (length t.clauses) [] conflict
      (All-nil (λ hint. (1 ≤ hint) × (hint ≤ length t.clauses))) (slice_get_within t.clauses conflict false_at.clause false_at.named));
  shows = subst (λ (ls : List Lit). Shows t (length t.entries) (is_seen w.seen) ls (reverse w.hints.items)) (sym kept)
      (subst (λ (hs : List ℕ). Shows t (length t.entries) (is_seen w.seen) [] (reverse hs)) (sym hints)
      (shows_start t apart false_at.clause conflict (length t.entries) (is_seen w.seen) false_at.named false_at.is_false entries_seen));
  stage = inl (record { empty = kept; low = back; waits = waits });
}
  where
    apart : AreApart t.entries
    apart = apart_from t.variables t.clauses t.entries sound.stand

    waits : (0 < w.seen.waiting) ⊎ (t.level ≡ 0)
    waits = elim (cases_lt 0 t.level) [
      | inl positive ↦ (let r = at_present t sound false_at.clause positive false_at.is_false
          (λ f. none_false (t.level - 1) (omega arith) (
            false_at.clause,
            contains_at t.clauses conflict false_at.clause false_at.named,
            f,
          )) in
          let m = entries_seen r.2.place (false_by t.entries apart false_at.clause r.0 r.1 r.2.place r.2.entry r.2.there r.2.same_literal) in
          let h = count_has t.level (is_seen w.seen) t.entries r.2.place r.2.entry m r.2.there r.2.same_level in
          inl (omega (arith, seen.counted, h)))
      | inr h ↦ inr (omega arith)
    ]

-- ---- one entry

pub analysis_kept : (t : TrailState) → IsSound t → (q : ℕ) (e : Entry) → slice_get t.entries q ≡ Some e → (w v : Analysis) → IsAnalysis t (q + 1) w →
    is_seen w.seen q ≡ true → IsCleared t q w.seen v.seen → v.kept.items ≡ w.kept.items ++ negation e.literal ∷ [] →
    v.back ≡ cond (nat_lt e.level t.level) (max w.back e.level) w.back → v ≡ record w { seen = v.seen; kept = v.kept; back = v.back } →
    MayStay t.level w.seen.waiting e → IsAnalysis t q v
analysis_kept t sound q e at w v analysis here after kept back rest stays = record {
  seen = after.seen;
  ahead = λ k h. ahead_cleared t sound q e at (is_seen w.seen) here analysis.ahead k (sym (after.cleared k) ∙ h);
  fresh = λ k d at_k below. ap (λ (ls : List Lit). has ls (negation d.literal)) kept
      ∙ has_without w.kept.items (negation e.literal) (negation d.literal)
      (opposites_differ t.entries apart q k e d at at_k (λ i. omega arith)) (analysis.fresh k d at_k (omega arith));
  few = (let f = analysis.few in omega (arith, ap length hints));
  named = subst (AreHints (length t.clauses)) (sym hints) analysis.named;
  shows = subst (λ (ls : List Lit). Shows t q (is_seen v.seen) ls (reverse v.hints.items)) (sym kept)
      (subst (λ (hs : List ℕ). Shows t q (is_seen v.seen) (w.kept.items ++ negation e.literal ∷ []) (reverse hs)) (sym hints)
      (shows_kept t apart q e (is_seen w.seen) (is_seen v.seen) w.kept.items (reverse w.hints.items) at
      (λ k n m. after.cleared k ∙ (without_other (is_seen w.seen) q k n ∙ m)) analysis.shows));
  stage = inr (stage_kept t sound q e at w v analysis.seen here analysis.ahead after kept back stays analysis.stage);
}
  where
    hints : v.hints.items ≡ w.hints.items
    hints = ap (λ (a : Analysis). a.hints.items) rest

    apart : AreApart t.entries
    apart = apart_from t.variables t.clauses t.entries sound.stand

pub analysis_replaced : (t : TrailState) → IsSound t → (q : ℕ) (e : Entry) → slice_get t.entries q ≡ Some e → (reason : ℕ) (w v : Analysis) →
    IsAnalysis t (q + 1) w → is_seen w.seen q ≡ true → TakesPlace t q reason w v → v ≡ record w { seen = v.seen; hints = v.hints } →
    IsReplaced t.clauses t.level w.seen.waiting e reason → IsAnalysis t q v
analysis_replaced t sound q e at reason w v analysis here replaced rest why =
    let hints = replaced.hints in
    let kept : v.kept.items ≡ w.kept.items = ap (λ (a : Analysis). a.kept.items) rest in
    let forced = forced_from t sound q e reason at why.forces in
    let clear = replaced.entries_seen forced.clause forced.named in
    let turned : reverse v.hints.items ≡ (reason + 1) ∷ reverse w.hints.items =
    ap reverse hints ∙ reverse-append w.hints.items ((reason + 1) ∷ []) in
    let both : ℕ → Bool = λ j. is_seen w.seen j || is_of_clause t.entries forced.clause j in
    let others : (k : ℕ) → (k ≡ q → ⊥) → is_seen w.seen k ≡ true →
    is_seen v.seen k ≡ true = λ k n m. clear k ∙ (without_other both q k n
    ∙ or_left (is_seen w.seen k) (is_of_clause t.entries forced.clause k) m) in
    let added : (k : ℕ) → (k ≡ q → ⊥) → is_of_clause t.entries forced.clause k ≡ true →
    is_seen v.seen k ≡ true = λ k n m. clear k ∙ (without_other both q k n
    ∙ or_right (is_seen w.seen k) (is_of_clause t.entries forced.clause k) m) in
    let shown = shows_replaced t apart q e reason forced.clause (is_seen w.seen) (is_seen v.seen) w.kept.items
    (reverse w.hints.items) at forced.named forced.others_false (analysis.fresh q e at (omega arith)) others added analysis.shows in
    record {
      seen = replaced.seen;
      ahead = λ k h. ahead_replaced t sound q e at (is_seen w.seen) here analysis.ahead reason forced k (sym (clear k) ∙ h);
      fresh = λ k d at_k below. ap (λ (ls : List Lit). has ls (negation d.literal)) kept ∙ analysis.fresh k d at_k (omega arith);
      few = (let f = analysis.few in omega (arith, ap length hints, length_push w.hints.items (reason + 1)));
      named = subst (AreHints (length t.clauses)) (sym hints) (hints_push (length t.clauses) w.hints.items reason analysis.named
          (slice_get_within t.clauses reason forced.clause forced.named));
      shows = subst (λ (ls : List Lit). Shows t q (is_seen v.seen) ls (reverse v.hints.items)) (sym kept)
          (subst (λ (hs : List ℕ). Shows t q (is_seen v.seen) w.kept.items hs) (sym turned) shown);
      stage = stage_replaced t sound q e at w v analysis.seen here analysis.ahead replaced.seen reason forced clear kept
          (ap (λ (a : Analysis). a.back) rest) why analysis.stage;
    }
  where
    apart : AreApart t.entries
    apart = apart_from t.variables t.clauses t.entries sound.stand

-- an entry that is not seen
pub analysis_skipped : (t : TrailState) (q : ℕ) (w : Analysis) → IsAnalysis t (q + 1) w → is_seen w.seen q ≡ false → IsAnalysis t q w
analysis_skipped t q w analysis none_seen = record {
  seen = analysis.seen;
  ahead = λ k h. (let b = analysis.ahead k h in
      let n : k ≡ q → ⊥ = λ is. false≢true (sym none_seen ∙ (ap (is_seen w.seen) (sym is) ∙ h)) in
      omega arith);
  fresh = λ k e at below. analysis.fresh k e at (omega arith);
  few = (let f = analysis.few in omega arith);
  named = analysis.named;
  shows = λ trues carries position. analysis.shows trues (record {
    set_true = carries.set_true;
    entries_seen = carries.entries_seen;
    passed = λ k e at below. carries.passed k e at (omega arith);
  }) position;
  stage = analysis.stage;
}

-- ---- the end

pub analysis_ends : (t : TrailState) → IsSound t → (place : ℕ) (w : Analysis) → IsAnalysis t place w → ((k : ℕ) → is_seen w.seen k ≡ false) →
    IsLearntClause t (in_order w.kept.items) (reverse w.hints.items) w.back
analysis_ends t sound place w analysis done = record {
  increasing = IsIncreasing-in_order w.kept.items;
  is_false = is_false;
  shown = analysis.shows (map negation (in_order w.kept.items)) (record {
    set_true = λ l h. ap (has (literals_of t.entries)) (sym (negation-negation l))
        ∙ is_false (negation l) (sym (has-map-negation (in_order w.kept.items) l) ∙ h);
    entries_seen = λ k e at m. absurd (none k m);
    passed = λ k e at below. has-map-negation (in_order w.kept.items) e.literal ∙ has-in_order w.kept.items (negation e.literal);
  }) 1;
  few_hints = (let f = analysis.few in omega (
    arith,
    length-reverse w.hints.items,
    length_entries t.variables t.clauses t.entries sound.stand,
    sound.few_variables,
  ));
  named = hints_reversed (length t.clauses) w.hints.items analysis.named;
  empty_at_start = λ start. elim analysis.stage [
    | inl early ↦ ap in_order early.empty
    | inr late ↦ absurd (omega (arith, late.below))
  ];
  asserting = λ above. elim analysis.stage [
    | inl early ↦ absurd (elim early.waits [
      | inl some ↦ (let r = count_some t.level (is_seen w.seen) t.entries (omega (arith, analysis.seen.counted)) in
          none r.place r.is_seen)
      | inr h ↦ omega arith
    ])
    | inr late ↦ asserting late
  ];
}
  where
    none : (k : ℕ) → is_seen w.seen k ≡ true → ⊥
    none k m = false≢true (sym (done k) ∙ m)

    kept_has : (late : IsLate t w) (l : Lit) → has (in_order w.kept.items) l ≡ (same late.asserted l || has late.others l)
    kept_has late l = has-in_order w.kept.items l ∙ ap (λ (ls : List Lit). has ls l) late.kept_is

    is_false : (l : Lit) → has (in_order w.kept.items) l ≡ true → has (literals_of t.entries) (negation l) ≡ true
    is_false l h = elim analysis.stage [
      | inl early ↦ absurd (false≢true (sym (has-in_order w.kept.items l ∙ ap (λ (ls : List Lit). has ls l) early.empty) ∙ h))
      | inr late ↦ elim (or_cases (same late.asserted l) (has late.others l) (sym (kept_has late l) ∙ h)) [
        | inl s ↦ ap (λ (x : Lit). has (literals_of t.entries) (negation x)) (sym (same_is late.asserted l s))
            ∙ set_has t.entries (negation late.asserted) t.level late.last
        | inr s ↦ (let r = late.lower l s in set_has t.entries (negation l) r.0 r.2)
      ]
    ]

    asserting : IsLate t w → IsAsserting t (in_order w.kept.items) w.back
    asserting late = record {
      asserted = late.asserted;
      member = kept_has late late.asserted ∙ or_left (same late.asserted late.asserted) (has late.others late.asserted)
          (same_from late.asserted late.asserted refl);
      last = late.last;
      others = λ l h n. elim (or_cases (same late.asserted l) (has late.others l) (sym (kept_has late l) ∙ h)) [
        | inl s ↦ absurd (n (sym (same_is late.asserted l s)))
        | inr s ↦ late.lower l s
      ];
      below = late.below;
      reached = λ h. (let r = late.reached h in (
        r.0,
        kept_has late r.0
            ∙ or_right (same late.asserted r.0) (has late.others r.0) r.1,
        r.2,
      ));
    }
