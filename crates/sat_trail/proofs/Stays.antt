-- How watches stay what they are while literals are set and taken back.
use Rattle.std.proofs.Common.{◌≡◌, ℕ, zero, suc, ◌+◌, ◌-◌, ◌*◌, ◌<◌, ◌≤◌, min, Bool, true, false, cond, List, [], ◌∷◌, ◌++◌, length, take}
use Rattle.std.proofs.Common.{Option, Some, None, slice_get, leb, sym, ap, ◌∙◌, subst, refl, arith, inl, inr, ◌⊎◌}
use Rattle.std.specs.Prelude.{Result, Ok, Err, OnOk, OnErr}
use Rattle.std.proofs.lemmas.Option.{slice_get_within, same_Some, none-some}
use Rattle.std.proofs.lemmas.List.{length_push, length-append}
use Rattle.std.proofs.lemmas.Bool.{true≢false, false≢true, cases_Bool, le-leb, leb-true}
use Rattle.base_library.proofs.Places.{slice_get-front, slice_get_grown, slice_get_push, slice_get-take, slice_get_some}
use Rattle.clause_core.specs.Literals.{Lit, negation, has, code_of}
use Rattle.clause_core.specs.Propagation.{not_false, IsQuiet}
use Rattle.clause_core.proofs.Sets.{code_within}
use Rattle.sat_trail.specs.declared.entries.Entry.{Entry}
use Rattle.sat_trail.specs.declared.watches.Watch.{Watch}
use Rattle.sat_trail.specs.declared.watches.Pair.{Pair}
use Rattle.sat_trail.specs.declared.watches.Aside.{Aside}
use Rattle.sat_trail.specs.declared.watches.Watches.{Watches}
use Rattle.sat_trail.specs.Entries.{literals_of}
use Rattle.sat_trail.specs.States.{TrailState, IsSound, decided, with_clause, undone, up_to, Propagates}
use Rattle.sat_trail.specs.internal.Watching.{IsOf, IsPairOf, IsExcused, IsMet, IsAside, AreAsides, AreWatched, left_of}
use Rattle.sat_trail.specs.internal.Watching.{MayPropagate, PropagatesWatched, GoesBack, CanWatch}
use Rattle.sat_trail.proofs.Places.{has_entry, entry_has}
use Rattle.sat_trail.proofs.Soundness.{level_within, over_literal, true_not_false}
use Rattle.sat_trail.proofs.TrailSteps.{IsOpen, open_two, open_true, quiet_from, has_not_false, has_one, propagates_after}

-- ---- what is true stays true

pub excused_from : {es fs : List Entry} {clause : List Lit} {number limit level now bound lower : ℕ} (x : IsExcused es clause number limit level)
    (place : ℕ) → slice_get fs place ≡ Some x.entry → (now < bound → x.entry.level ≤ lower) → IsExcused fs clause now bound lower
excused_from x place there in_time = record { place = place; entry = x.entry; there = there; member = x.member; in_time = in_time }

pub excused_grown : {es : List Entry} (more : List Entry) {clause : List Lit} {number limit level : ℕ} → IsExcused es clause number limit level →
    IsExcused (es ++ more) clause number limit level
excused_grown {es} more x = excused_from x x.place (slice_get_grown es more x.place x.entry x.there) x.in_time

-- a clause that is set aside or waits stays so at another index, or among other entries
pub aside_from : {es fs : List Entry} {xs ys : List Aside} {held now index number : ℕ} {clause : List Lit} (a : IsAside es xs held number clause) →
    slice_get ys index ≡ Some a.aside → (index < now → IsMet fs clause a.aside.level) → IsAside fs ys now number clause
aside_from {es} {fs} {xs} {ys} {held} {now} {index} a there met =
    record { index = index; aside = a.aside; there = there; names = a.names; met = met }

pub asides_more : {asides : List Aside} {held level count higher more : ℕ} → level ≤ higher → count ≤ more →
    AreAsides asides held level count → AreAsides asides held higher more
asides_more up wide a = record {
  few = a.few;
  rise = a.rise;
  low = λ k x below at. omega (arith, up, a.low k x below at);
  known = λ k x at. omega (arith, wide, a.known k x at);
}

-- a literal of the clause is true, and the number is not below the limit or the present level is the one given
pub excused_by : (t : TrailState) → IsSound t → (clause : List Lit) (l : Lit) (number limit level : ℕ) → has clause l ≡ true →
    has (literals_of t.entries) l ≡ true → (number < limit → level ≡ t.level) → IsExcused t.entries clause number limit level
excused_by t sound clause l number limit level member is_true late =
    let r = has_entry t.entries l is_true in
    record {
      place = r.0;
      entry = r.1;
      there = r.2;
      member = ap (has clause) r.3 ∙ member;
      in_time = λ below. (let is = late below in
          omega (arith, is, level_within t.variables t.clauses t.entries sound.stand r.0 r.1 r.2, sound.level_reached));
    }

-- ---- entries more

watched_more : (t : TrailState) (w : Watches) (more : List Entry) (level : ℕ) → AreWatched t w → t.level ≤ level →
    AreWatched (record t { entries = t.entries ++ more; level = level }) w
watched_more t w more level watched above = record {
  listing = watched.listing;
  head_few = omega (arith, watched.head_few, length-append t.entries more);
  asides = asides_more above (omega arith) watched.asides;
  excused = λ number clause pair l named is of place e there false_by below.
      elim (watched.excused number clause pair l named is of place e
      (sym (slice_get-front t.entries more place (omega (arith, below, watched.head_few))) ∙ there) false_by below) [
        | inl x ↦ inl (excused_grown more x)
        | inr a ↦ inr (still_aside a)
      ];
  unpaired = λ number clause named is. still_aside (watched.unpaired number clause named is);
}
  where
    still_aside : {number : ℕ} {clause : List Lit} → IsAside t.entries w.asides.items w.held number clause →
        IsAside (t.entries ++ more) w.asides.items w.held number clause
    still_aside a = aside_from a a.there (λ below. excused_grown more (a.met below))

pub watched_propagated : (t u : TrailState) (w : Watches) → AreWatched t w → Propagates t u → AreWatched u w
watched_propagated t u w watched grows = subst (λ (s : TrailState). AreWatched s w) (sym grows.rest_stays)
    (watched_more t w grows.added t.level watched (omega arith))

pub watched_decided : (t u : TrailState) (w : Watches) (l : Lit) → AreWatched t w → u ≡ decided t l → AreWatched u w
watched_decided t u w l watched is = subst (λ (s : TrailState). AreWatched s w) (sym is)
    (watched_more t w (record { literal = l; level = t.level + 1; reason = None } ∷ []) (t.level + 1) watched (omega arith))

pub ready_after : {t u : TrailState} {w v : Watches} → MayPropagate t w → IsSound u → PropagatesWatched t u v → MayPropagate u v
ready_after ready sound grows = record {
  usable = ap (λ (s : TrailState). s.broken) grows.propagates.rest_stays ∙ ready.usable;
  sound = sound;
  watched = grows.watched;
}

pub grows_after : {s t u : TrailState} {v : Watches} → Propagates s t → PropagatesWatched t u v → PropagatesWatched s u v
grows_after {s} {t} {u} first grows =
    record { propagates = propagates_after s t u first grows.propagates; watched = grows.watched }

-- ---- a clause more

pub watched_learnt : (t u : TrailState) (w : Watches) (clause : List Lit) → AreWatched t w → u ≡ with_clause t clause → AreWatched u w
watched_learnt t u w clause watched is = subst (λ (s : TrailState). AreWatched s w) (sym is) (record {
  listing = record {
    lists_all = watched.lists_all;
    pairs_few = omega (arith, watched.pairs_few, length_push t.clauses clause);
    blocked = λ code index list watch listed there. (let r = watched.blocked code index list watch listed there in
        (r.0, λ c named. r.1 c (old watch.clause c r.0 named)));
    paired = λ number c pair named at. watched.paired number c pair
        (old number c (slice_get_within w.pairs.items number (Some pair) at) named) at;
    listed = watched.listed;
  };
  head_few = watched.head_few;
  asides = watched.asides;
  excused = λ number c pair l named at. watched.excused number c pair l
      (old number c (slice_get_within w.pairs.items number (Some pair) at) named) at;
  unpaired = λ number c named at. watched.unpaired number c (old number c (slice_get_within w.pairs.items number None at) named) at;
})
  where
    old : (number : ℕ) (c : List Lit) → number < length w.pairs.items → slice_get (t.clauses ++ clause ∷ []) number ≡ Some c →
        slice_get t.clauses number ≡ Some c
    old number c below named = sym (slice_get-front t.clauses (clause ∷ []) number (omega (arith, below, watched.pairs_few))) ∙ named

-- ---- taking back

-- an entry up to the level stays, and those that stay are up to the level
up_to_at : (level : ℕ) (es : List Entry) (k : ℕ) (e : Entry) → slice_get es k ≡ Some e → e.level ≤ level →
    (j : ℕ) × (slice_get (up_to level es) j ≡ Some e)
up_to_at level [] k e at h = absurd (none-some e at)
up_to_at level (x ∷ es) zero e at h =
    let is : x ≡ e = same_Some x e at in
    let here : leb x.level level ≡ true = le-leb x.level level (omega (arith, ap (λ (z : Entry). z.level) is)) in
    (0, ap (λ (b : Bool). slice_get (cond b (x ∷ up_to level es) (up_to level es)) 0) here ∙ ap Some is)
up_to_at level (x ∷ es) (suc k) e at h = by_test (leb x.level level) (up_to_at level es k e at h)
  where
    by_test : (b : Bool) → (j : ℕ) × (slice_get (up_to level es) j ≡ Some e) →
        (j : ℕ) × (slice_get (cond b (x ∷ up_to level es) (up_to level es)) j ≡ Some e)
    by_test true r = (suc r.0, r.1)
    by_test false r = r

up_to_low : (level : ℕ) (es : List Entry) (k : ℕ) (e : Entry) → slice_get (up_to level es) k ≡ Some e → e.level ≤ level
up_to_low level [] k e at = absurd (none-some e at)
up_to_low level (x ∷ es) k e at = by_test (leb x.level level) refl k at (up_to_low level es)
  where
    by_test : (b : Bool) → leb x.level level ≡ b → (k : ℕ) → slice_get (cond b (x ∷ up_to level es) (up_to level es)) k ≡ Some e →
        ((j : ℕ) (d : Entry) → slice_get (up_to level es) j ≡ Some d → d.level ≤ level) → e.level ≤ level
    by_test true t zero h rest = omega (arith, leb-true x.level level t, ap (λ (z : Entry). z.level) (same_Some x e h))
    by_test true t (suc k) h rest = rest k e h
    by_test false t k h rest = rest k e h

pub watched_undone : (t u : TrailState) (w v : Watches) (level count : ℕ) → AreWatched t w → u ≡ undone t level →
    u.entries ≡ take (length u.entries) t.entries → count ≡ length u.entries → GoesBack level count w v → AreWatched u v
watched_undone t u w v level count watched is front count_is back =
    subst (λ (s : TrailState). AreWatched s v) (sym is) (subst (AreWatched (undone t level)) (sym back.rest) (record {
      listing = watched.listing;
      head_few = omega (arith, back.head, count_is, ap (λ (s : TrailState). length s.entries) is);
      asides = record {
        few = omega (arith, back.held, watched.asides.few);
        rise = λ j k a b up below. watched.asides.rise j k a b up (omega arith);
        low = λ k a below at. omega (arith, held_low k a below at, watched.asides.low k a (omega arith) at);
        known = watched.asides.known;
      };
      excused = λ number clause pair l named at of place e there false_by below.
          elim (watched.excused number clause pair l named at of place e (before place e there) false_by
          (omega (arith, below, back.head))) [
            | inl x ↦ inl (still (up_to_low level t.entries place e there) x (omega (arith, below, back.head)))
            | inr a ↦ inr (still_aside a)
          ];
      unpaired = λ number clause named at. still_aside (watched.unpaired number clause named at);
    }))
  where
    held_low : (k : ℕ) (a : Aside) → k < v.held → slice_get w.asides.items k ≡ Some a → a.level ≤ level
    held_low k a below at =
        let top = slice_get_some w.asides.items (v.held - 1) (omega (arith, below, back.held, watched.asides.few)) in
        omega (
          arith,
          watched.asides.rise k (v.held - 1) a top.0 (omega (arith, below)) (omega (arith, below, back.held)) at top.1,
          back.low top.0 (ap (λ (x : Watches). slice_get x.asides.items (v.held - 1)) back.rest ∙ top.1) (omega (arith, below)),
        )

    before : (place : ℕ) (e : Entry) → slice_get (up_to level t.entries) place ≡ Some e → slice_get t.entries place ≡ Some e
    before place e there = (slice_get-take (length u.entries) t.entries place e
        (ap (λ (es : List Entry). slice_get es place) (sym front) ∙ (ap (λ (s : TrailState). slice_get s.entries place) is ∙ there))).1

    still : {clause : List Lit} {number limit bound at_most : ℕ} → at_most ≤ level → IsExcused t.entries clause number limit at_most →
        number < limit → IsExcused (up_to level t.entries) clause number bound at_most
    still low x below =
        let r = up_to_at level t.entries x.place x.entry x.there (omega (arith, x.in_time below, low)) in
        excused_from x r.0 r.1 (λ _. x.in_time below)

    still_aside : {number : ℕ} {clause : List Lit} → IsAside t.entries w.asides.items w.held number clause →
        IsAside (up_to level t.entries) w.asides.items v.held number clause
    still_aside a = aside_from a a.there (λ below. still (held_low a.index a.aside below a.there)
        (a.met (omega (arith, below, back.held))) (omega arith))

-- ---- nothing is left to do

pub watched_quiet : (t : TrailState) (w : Watches) → IsSound t → AreWatched t w → left_of (length t.clauses) w ≡ 0 →
    length t.entries ≤ w.head → IsQuiet t.clauses (literals_of t.entries)
watched_quiet t w sound watched none_left all_visited = quiet_from trues t.clauses
    (λ k c named. each k c named (slice_get_some w.pairs.items k (omega (arith, slice_get_within t.clauses k c named, none_left))))
  where
    trues : List Lit
    trues = literals_of t.entries

    satisfied : (c : List Lit) (number limit level : ℕ) → IsExcused t.entries c number limit level → IsOpen trues c
    satisfied c number limit level x =
        let is_true : has trues x.entry.literal ≡ true = entry_has t.entries x.place x.entry x.entry.literal x.there refl in
        open_true trues c x.entry.literal (has_not_false trues c x.entry.literal x.member (true_not_false t sound x.entry.literal is_true))
        is_true

    -- no clause waits
    by_aside : (c : List Lit) (number : ℕ) → IsAside t.entries w.asides.items w.held number c → IsOpen trues c
    by_aside c number a = satisfied c 0 1 a.aside.level
        (a.met (omega (arith, slice_get_within w.asides.items a.index a.aside a.there, none_left)))

    -- a watched literal is not false, or the clause is satisfied
    watched_one : (k : ℕ) (c : List Lit) (pair : Pair) (l : Lit) → slice_get t.clauses k ≡ Some c → IsPairOf w.pairs.items k pair →
        IsOf pair l → (has trues (negation l) ≡ false) ⊎ IsOpen trues c
    watched_one k c pair l named at of = elim (cases_Bool (has trues (negation l))) [
      | inl t' ↦ (let r = has_entry t.entries (negation l) t' in
          elim (watched.excused k c pair l named at of r.0 r.1 r.2 r.3 (omega (arith, slice_get_within t.entries r.0 r.1 r.2))) [
            | inl x ↦ inr (satisfied c r.0 w.low r.1.level x)
            | inr a ↦ inr (by_aside c k a)
          ])
      | inr f ↦ inl f
    ]

    two : (c : List Lit) (a b : Lit) → (a ≡ b → ⊥) → has c a ≡ true → has c b ≡ true → has trues (negation a) ≡ false →
        has trues (negation b) ≡ false → IsOpen trues c
    two c a b differ in_a in_b free_a free_b = open_two trues c (by_list (not_false trues c) (has_not_false trues c a in_a free_a)
        (has_not_false trues c b in_b free_b))
      where
        by_list : (ls : List Lit) → has ls a ≡ true → has ls b ≡ true → 1 < length ls
        by_list [] h i = absurd (false≢true h)
        by_list (x ∷ []) h i = absurd (differ (sym (has_one x a h) ∙ has_one x b i))
        by_list (x ∷ y ∷ ls) h i = omega arith

    each : (k : ℕ) (c : List Lit) → slice_get t.clauses k ≡ Some c → (o : Option Pair) × (slice_get w.pairs.items k ≡ Some o) →
        IsOpen trues c
    each k c named (None, at) = by_aside c k (watched.unpaired k c named at)
    each k c named (Some pair, at) =
        let is = watched.paired k c pair named at in
        elim (watched_one k c pair pair.first named at (inl refl)) [
          | inr open' ↦ open'
          | inl a ↦ elim (watched_one k c pair pair.second named at (inr refl)) [
            | inr open' ↦ open'
            | inl b ↦ two c pair.first pair.second is.apart is.first is.second a b
          ]
        ]

-- ---- the limit of places falls

pub watched_low : (t : TrailState) (w v : Watches) → AreWatched t w → v ≡ record w { low = v.low } → v.low ≤ w.low → AreWatched t v
watched_low t w v watched is less = subst (AreWatched t) (sym is) (record {
  listing = watched.listing;
  head_few = watched.head_few;
  asides = watched.asides;
  excused = λ number clause pair l named at of place e there false_by below.
      elim (watched.excused number clause pair l named at of place e there false_by below) [
        | inl x ↦ inl (excused_from x x.place x.there (λ early. x.in_time (omega (arith, early, less))))
        | inr a ↦ inr a
      ];
  unpaired = watched.unpaired;
})

pub lowered_le : (b : Bool) (low place limit : ℕ) → limit ≡ cond b (min low place) low → limit ≤ low
lowered_le true low place limit h = omega arith
lowered_le false low place limit h = omega arith

-- ---- what holds between the calls

pub lists_have : (t : TrailState) (w : Watches) → IsSound t → AreWatched t w → (number : ℕ) (clause : List Lit) (l : Lit) →
    slice_get t.clauses number ≡ Some clause → has clause l ≡ true → code_of l < length w.lists.items
lists_have t w sound watched number clause l named member = omega
    (arith, watched.lists_all, code_within t.variables l (over_literal t sound number clause l named member))

pub lists_can : {t : TrailState} {w : Watches} {number : ℕ} {first second : Lit} → IsSound t → AreWatched t w →
    CanWatch t number first second → (code_of first < length w.lists.items) × (code_of second < length w.lists.items)
lists_can {t} {w} {number} {first} {second} sound watched can = (
  lists_have t w sound watched number can.clause first can.named can.member,
  lists_have t w sound watched number can.clause second can.named can.other,
)

-- an answer that is an error breaks the trail
pub answered : {T E : Type 0} (r : Result T E) (P : Type 0) (b : Bool) → OnOk r P → OnErr r (b ≡ true) → b ≡ false → P
answered (Ok x) P b ok err usable = ok
answered (Err e) P b ok err usable = absurd (true≢false (sym err ∙ usable))

-- ---- the beginning

pub watched_started : (t : TrailState) (w : Watches) → length w.lists.items ≡ 2 * t.variables →
    ((code : ℕ) (list : List Watch) → slice_get w.lists.items code ≡ Some list → list ≡ []) → w.pairs.items ≡ [] →
    w.asides.items ≡ [] → w.held ≡ 0 → w.head ≡ 0 → AreWatched t w
watched_started t w all empty pairs asides held head = record {
  listing = record {
    lists_all = all;
    pairs_few = omega (arith, ap length pairs);
    blocked = λ code index list watch listed there. absurd (none-some watch
        (ap (λ (xs : List Watch). slice_get xs index) (sym (empty code list listed)) ∙ there));
    paired = λ number clause pair named at. absurd (none number (Some pair) at);
    listed = λ number pair l at. absurd (none number (Some pair) at);
  };
  head_few = omega (arith, head);
  asides = record {
    few = omega (arith, held);
    rise = λ j k a b up below. absurd (omega (arith, held));
    low = λ k a below. absurd (omega (arith, held));
    known = λ k a at. absurd (none-some a (ap (λ (xs : List Aside). slice_get xs k) (sym asides) ∙ at));
  };
  excused = λ number clause pair l named at. absurd (none number (Some pair) at);
  unpaired = λ number clause named at. absurd (none number None at);
}
  where
    none : (number : ℕ) (o : Option Pair) → slice_get w.pairs.items number ≡ Some o → ⊥
    none number o at = none-some o (ap (λ (ps : List (Option Pair)). slice_get ps number) (sym pairs) ∙ at)

pub empty_more : (lists : List (List Watch)) (list : List Watch) → list ≡ [] →
    ((code : ℕ) (xs : List Watch) → slice_get lists code ≡ Some xs → xs ≡ []) → (code : ℕ) (xs : List Watch) →
    slice_get (lists ++ list ∷ []) code ≡ Some xs → xs ≡ []
empty_more lists list is empty code xs at = elim (slice_get_push lists list code xs at) [ inl p ↦ empty code xs p.1 | inr p ↦ sym p.1 ∙ is ]
