-- What the visit of an entry keeps, and of a watch in its literal's list.
use Rattle.std.proofs.Common.{◌≡◌, ℕ, ◌+◌, ◌<◌, min, Bool, true, false, cond, List, length, Option, Some, None, slice_get, get_or, sym, ap}
use Rattle.std.proofs.Common.{◌∙◌, subst, refl, arith, inl, inr, MatchOption}
use Rattle.std.specs.Prelude.{nat_lt, option_map, is_some, Result, Ok, Err, OnOk, IfOk}
use Rattle.std.proofs.lemmas.Option.{slice_get_within, same_Some, none-some, slice_get-get_or, get_or_from_slice_get}
use Rattle.std.proofs.lemmas.Bool.{true≢false, cases_lt, ltb-false}
use Rattle.std.proofs.lemmas.Result.{on_ok_weaker}
use Rattle.base_library.proofs.Places.{slice_get_some, slice_get_one, slice_get_grown}
use Rattle.clause_core.specs.Literals.{Lit, negation, has, code_of}
use Rattle.clause_core.proofs.Sets.{negation-negation}
use Rattle.sat_trail.specs.declared.entries.Entry.{Entry}
use Rattle.sat_trail.specs.declared.watches.Watch.{Watch}
use Rattle.sat_trail.specs.declared.watches.Pair.{Pair}
use Rattle.sat_trail.specs.declared.watches.Watches.{Watches}
use Rattle.sat_trail.specs.Entries.{literals_of}
use Rattle.sat_trail.specs.States.{TrailState, IsSound, Propagates, IsFalseAt}
use Rattle.sat_trail.specs.internal.Watching.{HasList, IsOf, IsPairOf, IsPair, IsPairIn, IsExcused, AreWatched, MayPropagate, IsVisit, AreDue}
use Rattle.sat_trail.specs.internal.Watching.{IsVisiting, Visits}
use Rattle.sat_trail.proofs.Soundness.{level_within, over_literal}
use Rattle.sat_trail.proofs.Stays.{excused_from, excused_grown, excused_by, watched_propagated, watched_low, lowered_le, ready_after}

-- ---- literals are set

-- what is due stays due while literals are set
due_propagated : (t u : TrailState) (w : Watches) (f : Lit) (end' : ℕ) → AreDue t w f end' → Propagates t u → AreDue u w f end'
due_propagated t u w f end' due grows n clause pair named at of = elim
    (due n clause pair (ap (λ (s : TrailState). slice_get s.clauses n) (sym grows.rest_stays) ∙ named) at of) [
      | inl x ↦ inl (subst (λ (s : TrailState). IsExcused s.entries clause w.head w.low s.level) (sym grows.rest_stays)
          (excused_grown grows.added x))
      | inr r ↦ inr r
    ]

-- ---- a watch is read

-- a watch is read, at this index of the literal's list
pub record HasRead (t : TrailState) (w : Watches) (f : Lit) (index : ℕ) (watch : Watch) : Type 0 where
  pub ready : MayPropagate t w
  pub visiting : IsVisiting t w f (index + 1)
  pub there : slice_get visiting.visit.list.list index ≡ Some watch

pub has_read : {t : TrailState} {w : Watches} {f : Lit} {index k : ℕ} {x : List Watch} {watch : Watch} → MayPropagate t w →
    IsVisiting t w f (index + 1) → k ≡ code_of f → x ≡ get_or w.lists.items k x → slice_get x index ≡ Some watch →
    HasRead t w f index watch
has_read {t} {w} {f} {index} {k} {x} {watch} ready visiting k_is read there = record {
  ready = ready;
  visiting = visiting;
  there = (let l = visiting.visit.list in ap (λ (xs : List Watch). slice_get xs index) (sym (read
      ∙ get_or_from_slice_get w.lists.items k l.list x (ap (slice_get w.lists.items) k_is ∙ l.listed))) ∙ there);
}

-- the visit of the entry goes on where literals are set, and where nothing changes of the watches but what clauses watch
pub visits_on : {t u : TrailState} {w v : Watches} {f : Lit} {least end' : ℕ} → IsVisit t w f least → Propagates t u → AreWatched u v →
    HasList v.lists.items (code_of f) end' → v ≡ record w { lists = v.lists; pairs = v.pairs } → Visits t u v f end'
visits_on {t} {u} {w} {v} visit grows watched list rest = record {
  grows = record { propagates = grows; watched = watched };
  visit = record {
    entry = visit.entry;
    there = ap (λ (x : Watches). slice_get u.entries x.head) rest ∙ (ap (λ (s : TrailState). slice_get s.entries w.head) grows.rest_stays
        ∙ slice_get_grown t.entries grows.added w.head visit.entry visit.there);
    is = visit.is;
    late = λ below. visit.late (subst (λ (x : Watches). x.head < x.low) rest below)
        ∙ ap (λ (s : TrailState). s.level) (sym grows.rest_stays);
    list = list;
  };
}

module _ {t : TrailState} {w : Watches} {f : Lit} {index : ℕ} {watch : Watch} (r : HasRead t w f index watch) where
  open r use {ready.{sound, watched}, visiting.{visit, due}, visiting.visit.list.{list, listed}, there}

  -- its clause was looked at
  pub clause_within : watch.clause < length w.pairs.items
  clause_within = (watched.blocked (code_of f) index list watch listed there).0

  pub blocker_in : (clause : List Lit) → slice_get t.clauses watch.clause ≡ Some clause → has clause watch.blocker ≡ true
  blocker_in = (watched.blocked (code_of f) index list watch listed there).1

  clause_some : (clause : List Lit) × (slice_get t.clauses watch.clause ≡ Some clause)
  clause_some = slice_get_some t.clauses watch.clause (omega (arith, clause_within, watched.pairs_few))

  pub blocker_over : watch.blocker.index < t.variables
  blocker_over = over_literal t sound watch.clause clause_some.0 watch.blocker clause_some.1 (blocker_in clause_some.0 clause_some.1)

  -- all other clauses that are due have their watch before the index; this one is excused
  pub due_excused : ((clause : List Lit) (pair : Pair) → slice_get t.clauses watch.clause ≡ Some clause →
      IsPairOf w.pairs.items watch.clause pair → IsExcused t.entries clause w.head w.low t.level) → AreDue t w f index
  due_excused excused n clause pair named at of = elim (due n clause pair named at of) [
    | inl x ↦ inl x
    | inr r ↦ elim (cases_lt r.0 index) [
      | inl below ↦ inr (r.0, below, r.2)
      | inr above ↦ (let e : r.0 ≡ index = omega (arith, r.1, above) in
          let same_list : r.2.list ≡ list = same_Some r.2.list list (sym r.2.listed ∙ listed) in
          let same_watch : r.2.watch ≡ watch = same_Some r.2.watch watch
          (sym r.2.there ∙ (ap (λ (ls : List Watch). slice_get ls r.0) same_list ∙ (ap (slice_get list) e ∙ there))) in
          let number_is : watch.clause ≡ n = ap (λ (x : Watch). x.clause) (sym same_watch) ∙ r.2.names in
          inl (excused clause pair (ap (slice_get t.clauses) number_is ∙ named) (ap (slice_get w.pairs.items) number_is ∙ at)))
    ]
  ]

  -- the entry that is visited is of the present level, or its place is not below the limit
  pub due_true : (l : Lit) → has (literals_of t.entries) l ≡ true → ((clause : List Lit) (pair : Pair) →
      slice_get t.clauses watch.clause ≡ Some clause → IsPairOf w.pairs.items watch.clause pair → has clause l ≡ true) → AreDue t w f index
  due_true l is_true member = due_excused (λ clause pair named at. excused_by t sound clause l w.head w.low t.level
      (member clause pair named at) is_true (λ _. refl))

  pub due_blocked : has (literals_of t.entries) watch.blocker ≡ true → AreDue t w f index
  due_blocked is_true = due_true watch.blocker is_true (λ clause pair named at. blocker_in clause named)

  -- a clause with no pair is not due
  pub due_unpaired : {x : Option Pair} → x ≡ get_or w.pairs.items watch.clause x → x ≡ None → AreDue t w f index
  due_unpaired {x} read is = due_excused (λ clause pair named at. absurd
      (none-some pair (sym is ∙ (read ∙ get_or_from_slice_get w.pairs.items watch.clause (Some pair) x at))))

  -- the pair of its clause
  pub pair_at : {x : Option Pair} {pair : Pair} → x ≡ get_or w.pairs.items watch.clause x → x ≡ Some pair →
      IsPairOf w.pairs.items watch.clause pair
  pair_at {x} read is = slice_get-get_or w.pairs.items watch.clause x clause_within ∙ ap Some (sym read ∙ is)

  pub pair_read : {x : Option Pair} {pair : Pair} → x ≡ get_or w.pairs.items watch.clause x → x ≡ Some pair → IsPairIn t watch.clause pair
  pair_read {x} {pair} read is =
      let c = clause_some in
      record { clause = c.0; named = c.1; is = watched.paired watch.clause c.0 pair c.1 (pair_at read is) }

-- ---- and the other literal of its clause's pair

-- a literal of a pair is one of the clause
pub of_clause : {clause : List Lit} {pair : Pair} {l : Lit} → IsPair clause pair → IsOf pair l → has clause l ≡ true
of_clause {clause} is (inl e) = ap (has clause) (sym e) ∙ is.first
of_clause {clause} is (inr e) = ap (has clause) (sym e) ∙ is.second

-- the pair of its clause has this literal, which is another one where the two differ
pub record HasOther (t : TrailState) (w : Watches) (f : Lit) (index : ℕ) (watch : Watch) (other : Lit) : Type 0 where
  pub read : HasRead t w f index watch
  pub pair : Pair
  pub at : IsPairOf w.pairs.items watch.clause pair
  pub of : IsOf pair other
  pub apart : (pair.first ≡ pair.second → ⊥) → other ≡ f → ⊥

pub has_other : {t : TrailState} {w : Watches} {f : Lit} {index : ℕ} {watch : Watch} {x : Option Pair} {pair : Pair} {other : Lit} →
    HasRead t w f index watch → x ≡ get_or w.pairs.items watch.clause x → x ≡ Some pair → IsOf pair other →
    ((pair.first ≡ pair.second → ⊥) → other ≡ f → ⊥) → HasOther t w f index watch other
has_other {t} {w} {f} {index} {watch} {x} {pair} r read is of apart =
    record { read = r; pair = pair; at = pair_at r read is; of = of; apart = apart }

module _ {t : TrailState} {w : Watches} {f : Lit} {index : ℕ} {watch : Watch} {other : Lit} (o : HasOther t w f index watch other) where
  open o use {read.{ready, visiting, there}, pair, at, of, apart}
  open o.read.ready use {sound, watched}

  pub other_in : (clause : List Lit) → slice_get t.clauses watch.clause ≡ Some clause → has clause other ≡ true
  other_in clause named = of_clause (watched.paired watch.clause clause pair named at) of

  pub other_over : other.index < t.variables
  other_over =
      let c = clause_some o.read in
      over_literal t sound watch.clause c.0 other c.1 (other_in c.0 c.1)

  -- the other literal is true, or made true
  pub due_other : has (literals_of t.entries) other ≡ true → AreDue t w f index
  due_other is_true = due_true o.read other is_true (λ clause pair named at. other_in clause named)

  other_propagated : {u : TrailState} → IsSound u → Propagates t u → HasOther u w f index watch other
  unfolding visits_on
  other_propagated {u} sound_u grows = record {
    read = (let visits = visits_on visiting.visit grows (watched_propagated t u w watched grows) visiting.visit.list refl in record {
      ready = ready_after ready sound_u visits.grows;
      visiting = record { visit = visits.visit; due = due_propagated t u w f (index + 1) visiting.due grows };
      there = there;
    });
    pair = pair;
    at = at;
    of = of;
    apart = apart;
  }

pub visits_forced : {E : Type 0} {t : TrailState} (u : TrailState) {w : Watches} {f : Lit} (index : ℕ) (r : Result (Option ℕ) E) →
    AreWatched t w → IsVisiting t w f (index + 1) → OnOk r (Propagates t u) → OnOk r (Visits t u w f index)
visits_forced {E} {t} u {w} index r watched visiting grows =
    let l = visiting.visit.list in
    on_ok_weaker r (λ g. visits_on visiting.visit g (watched_propagated t u w watched g)
    (record { list = l.list; listed = l.listed; long = omega (arith, l.long) }) refl) grows

pub due_forced : {E : Type 0} {t u : TrailState} {w : Watches} {f : Lit} {index : ℕ} {watch : Watch} {other : Lit}
    (r : Result (Option ℕ) E) → HasOther t w f index watch other → IsSound u → OnOk r (Propagates t u) →
    IfOk r (λ conflict. MatchOption conflict (has (literals_of u.entries) other ≡ true) (IsFalseAt u)) →
    IfOk r (λ conflict. MatchOption conflict (AreDue u w f index) (IsFalseAt u))
due_forced (Ok None) o sound grows is_true = due_other (other_propagated o sound grows) is_true
due_forced (Ok (Some number)) o sound grows is_false = is_false
due_forced (Err e) o sound grows ends = tt

-- ---- an entry is visited

-- the last visit: the entry is visited
pub watched_visited : (t : TrailState) (w v : Watches) (f : Lit) → AreWatched t w → IsVisiting t w f 0 →
    v ≡ record w { head = w.head + 1 } → AreWatched t v
watched_visited t w v f watched visiting is = subst (AreWatched t) (sym is) (record {
  listing = watched.listing;
  head_few = omega (arith, slice_get_within t.entries w.head visit.entry visit.there);
  asides = watched.asides;
  excused = λ number clause pair l named at of place e there false_by below. elim (cases_lt place w.head) [
    | inl less ↦ watched.excused number clause pair l named at of place e there false_by less
    | inr more ↦ (let place_is : place ≡ w.head = omega (arith, below, more) in
        let entry_is : e ≡ visit.entry = slice_get_one t.entries w.head e visit.entry
        (ap (slice_get t.entries) (sym place_is) ∙ there) visit.there in
        let l_is : f ≡ l = sym (negation-negation f) ∙ (ap negation (sym visit.is
        ∙ (ap (λ (x : Entry). x.literal) (sym entry_is) ∙ false_by)) ∙ negation-negation l) in
        elim (visiting.due number clause pair named at (subst (IsOf pair) (sym l_is) of)) [
          | inl x ↦ inl (at_level clause place e x place_is entry_is)
          | inr r ↦ absurd (omega (arith, r.1))
        ])
  ];
  unpaired = watched.unpaired;
})
  where
    open visiting use {visit}

    at_level : (clause : List Lit) (place : ℕ) (e : Entry) → IsExcused t.entries clause w.head w.low t.level → place ≡ w.head →
        e ≡ visit.entry → IsExcused t.entries clause place w.low e.level
    at_level clause place e x place_is entry_is = excused_from x x.place x.there (λ below.
        (let h : w.head < w.low = omega (arith, below, place_is) in
        omega (arith, x.in_time h, visit.late h, ap (λ (z : Entry). z.level) entry_is)))

-- at the first visit each clause that watches the literal is due
due_all : (t : TrailState) (w : Watches) (f : Lit) (list : List Watch) → AreWatched t w →
    slice_get w.lists.items (code_of f) ≡ Some list → AreDue t w f (length list)
due_all t w f list watched listed n clause pair named at of =
    let r = watched.listed n pair f at of in
    let same_list : r.1.list ≡ list = same_Some r.1.list list (sym r.1.listed ∙ listed) in
    inr (r.0, omega (arith, slice_get_within r.1.list r.0 r.1.watch r.1.there, ap length same_list), r.1)

entry_literal : (o : Option Entry) (e : Entry) (l : Lit) → option_map (λ x. x.literal) o ≡ Some l → o ≡ Some e → e.literal ≡ l
entry_literal None e l read is = absurd (none-some e is)
entry_literal (Some x) e l read is = ap (λ (z : Entry). z.literal) (sym (same_Some x e is)) ∙ same_Some x.literal l read

pub falsified_is : (t : TrailState) (head : ℕ) (e : Entry) (l f : Lit) → slice_get t.entries head ≡ Some e →
    option_map (λ x. x.literal) (slice_get t.entries head) ≡ Some l → f ≡ negation l → e.literal ≡ negation f
falsified_is t head e l f there read is = entry_literal (slice_get t.entries head) e l read there
    ∙ (sym (negation-negation l) ∙ ap negation (sym is))

pub falsified_over : (t : TrailState) → IsSound t → (head : ℕ) (e : Entry) (f : Lit) → slice_get t.entries head ≡ Some e →
    e.literal ≡ negation f → f.index < t.variables
falsified_over t sound head e f there is = omega (arith, (sound.stand head e there).over, ap (λ (z : Lit). z.index) is)

pub visit_begins : (t : TrailState) (w v : Watches) (f : Lit) (e : Entry) (list : List Watch) → MayPropagate t w →
    slice_get t.entries w.head ≡ Some e → e.literal ≡ negation f → slice_get v.lists.items (code_of f) ≡ Some list →
    v ≡ record w { low = v.low } → v.low ≡ cond (nat_lt e.level t.level) (min w.low w.head) w.low →
    MayPropagate t v × IsVisiting t v f (length list)
visit_begins t w v f e list ready there is listed rest low = (
  record { usable = ready.usable; sound = ready.sound; watched = watched },
  record {
    visit = record {
      entry = e;
      there = ap (slice_get t.entries) head ∙ there;
      is = is;
      late = λ below. late (nat_lt e.level t.level) refl low below;
      list = record { list = list; listed = listed; long = omega arith };
    };
    due = due_all t v f list watched listed;
  },
)
  where
    watched : AreWatched t v
    watched = watched_low t w v ready.watched rest (lowered_le (nat_lt e.level t.level) w.low w.head v.low low)

    head : v.head ≡ w.head
    head = ap (λ (x : Watches). x.head) rest

    late : (b : Bool) → nat_lt e.level t.level ≡ b → v.low ≡ cond b (min w.low w.head) w.low → v.head < v.low → e.level ≡ t.level
    late true h k below = absurd (omega (arith, k, below, head))
    late false h k below = omega (
      arith,
      ltb-false e.level t.level h,
      ready.sound.level_reached,
      level_within t.variables t.clauses t.entries ready.sound.stand w.head e there,
    )

pub list_read : (lists : List (List Watch)) (code k : ℕ) (x : List Watch) → k ≡ code → x ≡ get_or lists k x → code < length lists →
    slice_get lists code ≡ Some x
list_read lists code k x k_is read below = slice_get-get_or lists code x below ∙ ap Some (sym (read ∙ ap (λ i. get_or lists i x) k_is))

pub match_none : {X : Type 0} (P : Type 0) (Q : X → Type 0) (o : Option X) → is_some o ≡ false → MatchOption o P Q → P
match_none P Q None h m = m
match_none P Q (Some x) h m = absurd (true≢false h)
