-- Clauses that wait to be looked at, and those that are set aside.
use Rattle.std.proofs.Common.{◌≡◌, ℕ, ◌+◌, ◌<◌, ◌≤◌, true, false, List, [], ◌∷◌, ◌++◌, length, set, Option, Some, None}
use Rattle.std.proofs.Common.{slice_get, get_or, sym, ap, ◌∙◌, subst, refl, arith, inl, inr, ◌⊎◌}
use Rattle.std.proofs.lemmas.Option.{slice_get_within, same_Some, none-some, slice_get-get_or}
use Rattle.std.proofs.lemmas.List.{length_push, length-set}
use Rattle.std.proofs.lemmas.Bool.{false≢true, cases_lt, cases_eq}
use Rattle.base_library.proofs.Places.{slice_get_grown, slice_get_push, slice_get-behind, slice_get_some}
use Rattle.clause_core.specs.Literals.{Lit, negation, has, code_of}
use Rattle.sat_trail.specs.declared.entries.Entry.{Entry}
use Rattle.sat_trail.specs.declared.watches.Pair.{Pair}
use Rattle.sat_trail.specs.declared.watches.Aside.{Aside}
use Rattle.sat_trail.specs.declared.watches.Watches.{Watches}
use Rattle.sat_trail.specs.Entries.{literals_of}
use Rattle.sat_trail.specs.States.{TrailState, IsSound}
use Rattle.sat_trail.specs.internal.Watching.{HasWatch, Attaches, IsOf, IsPairOf, IsPair, pair_of, PutsPair, IsAside, AreListed, AreWatched, CanWatch, IsOpenBy}
use Rattle.sat_trail.specs.internal.Watching.{IsNextWaiting, IsOpenAt, IsWatchedBy, SetsAside, Releases, left_of, LooksAtOne, Rewatches}
use Rattle.sat_trail.proofs.Places.{entry_has}
use Rattle.sat_trail.proofs.Soundness.{over_literal}
use Rattle.sat_trail.proofs.Stays.{excused_by, lists_can, aside_from, asides_more}
use Rattle.sat_trail.proofs.WatchLists.{has_watch_more, has_watch_new, blocked_one, blocked_within, blocked_more, pair_set, pair_push, pair_was}
use Rattle.sat_trail.proofs.WatchLists.{pair_is_new}
use Rattle.sat_trail.proofs.Visits.{of_clause}

-- ---- the next clause is taken in

pub watched_taken : (t : TrailState) (w v : Watches) → AreWatched t w → length w.pairs.items < length t.clauses →
    length w.asides.items ≤ w.held → v.asides.items ≡ w.asides.items ++ record { clause = length w.pairs.items; level = 0 } ∷ [] →
    v.pairs.items ≡ w.pairs.items ++ None ∷ [] → v ≡ record w { pairs = v.pairs; asides = v.asides } → AreWatched t v
watched_taken t w v watched more none asides pairs is = subst (AreWatched t) (sym is) (record {
  listing = record {
    lists_all = watched.lists_all;
    pairs_few = omega (arith, count, more);
    blocked = blocked_within t.clauses w.lists.items (omega (arith, count)) watched.blocked;
    paired = λ number clause pair named at. watched.paired number clause pair named (had number pair at);
    listed = λ number pair l at. watched.listed number pair l (had number pair at);
  };
  head_few = watched.head_few;
  asides = record {
    few = omega (arith, watched.asides.few, ap length asides, length_push w.asides.items new);
    rise = λ j k a b up below at_j at_k. watched.asides.rise j k a b up below (aside_was j a (omega (arith, up, below)) at_j)
        (aside_was k b below at_k);
    low = λ k a below at. watched.asides.low k a below (aside_was k a below at);
    known = λ k a at. elim (slice_get_push w.asides.items new k a (ap (λ (xs : List Aside). slice_get xs k) (sym asides) ∙ at)) [
      | inl p ↦ omega (arith, watched.asides.known k a p.1, count)
      | inr p ↦ omega (arith, ap (λ (x : Aside). x.clause) p.1, count)
    ];
  };
  excused = λ number clause pair l named at of place e there false_by below.
      elim (watched.excused number clause pair l named (had number pair at) of place e there false_by below) [
        | inl x ↦ inl x
        | inr a ↦ inr (aside_from a (grown a.index a.aside a.there) a.met)
      ];
  unpaired = λ number clause named at. elim (slice_get_push w.pairs.items None number None
      (ap (λ (ps : List (Option Pair)). slice_get ps number) (sym pairs) ∙ at)) [
        | inl p ↦ (let a = watched.unpaired number clause named p.1 in aside_from a (grown a.index a.aside a.there) a.met)
        | inr p ↦ record {
          index = length w.asides.items;
          aside = new;
          there = ap (λ (xs : List Aside). slice_get xs (length w.asides.items)) asides ∙ slice_get-behind w.asides.items new [];
          names = sym p.0;
          met = λ below. absurd (omega (arith, below, none));
        }
      ];
})
  where
    new : Aside
    new = record { clause = length w.pairs.items; level = 0 }

    count : length v.pairs.items ≡ length w.pairs.items + 1
    count = omega (arith, ap length pairs, length_push w.pairs.items None)

    had : (number : ℕ) (pair : Pair) → slice_get v.pairs.items number ≡ Some (Some pair) → slice_get w.pairs.items number ≡ Some (Some pair)
    had number pair at = elim (slice_get_push w.pairs.items None number (Some pair)
        (ap (λ (ps : List (Option Pair)). slice_get ps number) (sym pairs) ∙ at)) [
          | inl p ↦ p.1
          | inr p ↦ absurd (none-some pair p.1)
        ]

    grown : (k : ℕ) (a : Aside) → slice_get w.asides.items k ≡ Some a → slice_get v.asides.items k ≡ Some a
    grown k a at = ap (λ (xs : List Aside). slice_get xs k) asides ∙ slice_get_grown w.asides.items (new ∷ []) k a at

    aside_was : (k : ℕ) (a : Aside) → k < w.held → slice_get v.asides.items k ≡ Some a → slice_get w.asides.items k ≡ Some a
    aside_was k a below at = elim (slice_get_push w.asides.items new k a (ap (λ (xs : List Aside). slice_get xs k) (sym asides) ∙ at)) [
      | inl p ↦ p.1
      | inr p ↦ absurd (omega (arith, p.0, below, watched.asides.few))
    ]

-- ---- a clause that waits is set aside

pub watched_aside : (t : TrailState) (w v : Watches) (number : ℕ) (clause : List Lit) (l : Lit) → IsSound t → AreWatched t w →
    IsNextWaiting w number → slice_get t.clauses number ≡ Some clause → has clause l ≡ true → has (literals_of t.entries) l ≡ true →
    SetsAside t.level w v → AreWatched t v
watched_aside t w v number clause l sound watched next named member is_true sets = subst (AreWatched t) (sym sets.rest) (record {
  listing = watched.listing;
  head_few = watched.head_few;
  asides = record {
    few = omega (arith, sets.all, sets.more, slice_get_within w.asides.items w.held next.aside next.there);
    rise = λ j k a b up below at_j at_k. elim (was k b at_k) [
      | inl p ↦ omega (arith, at_most j a (omega (arith, up, below)) at_j, p.1)
      | inr q ↦ elim (was j a at_j) [
        | inl p ↦ absurd (omega (arith, p.0, q.0, up, below, sets.more))
        | inr p ↦ watched.asides.rise j k a b up (omega (arith, below, sets.more, q.0)) p.1 q.1
      ]
    ];
    low = λ k a below at. at_most k a below at;
    known = λ k a at. elim (cases_eq k w.held) [
      | inl e ↦ omega (
        arith,
        watched.asides.known w.held next.aside next.there,
        ap (λ (x : Aside). x.clause) (same_Some (record next.aside { level = t.level }) a
            (sym (sets.here next.aside next.there) ∙ (ap (slice_get v.asides.items) (sym e) ∙ at))),
      )
      | inr n ↦ watched.asides.known k a (sym (sets.others k n) ∙ at)
    ];
  };
  excused = λ number' c pair m named' at of place e there false_by below.
      elim (watched.excused number' c pair m named' at of place e there false_by below) [
        | inl x ↦ inl x
        | inr a ↦ inr (kept number' c named' a)
      ];
  unpaired = λ number' c named' at. kept number' c named' (watched.unpaired number' c named' at);
})
  where
    was : (k : ℕ) (a : Aside) → slice_get v.asides.items k ≡ Some a →
        ((k ≡ w.held) × (a.level ≡ t.level)) ⊎ ((k ≡ w.held → ⊥) × (slice_get w.asides.items k ≡ Some a))
    was k a at = elim (cases_eq k w.held) [
      | inl e ↦ inl (
        e,
        sym (ap (λ (x : Aside). x.level) (same_Some (record next.aside { level = t.level }) a
            (sym (sets.here next.aside next.there) ∙ (ap (slice_get v.asides.items) (sym e) ∙ at)))),
      )
      | inr n ↦ inr (n, sym (sets.others k n) ∙ at)
    ]

    at_most : (k : ℕ) (a : Aside) → k < v.held → slice_get v.asides.items k ≡ Some a → a.level ≤ t.level
    at_most k a below at = elim (was k a at) [
      | inl p ↦ omega (arith, p.1)
      | inr p ↦ watched.asides.low k a (let h : k < w.held = omega (arith, below, sets.more, p.0) in h) p.1
    ]

    kept : (number' : ℕ) (c : List Lit) → slice_get t.clauses number' ≡ Some c → IsAside t.entries w.asides.items w.held number' c →
        IsAside t.entries v.asides.items v.held number' c
    kept number' c named' a = elim (cases_eq a.index w.held) [
      | inr n ↦ aside_from a (sets.others a.index n ∙ a.there) (λ below. a.met (omega (arith, below, sets.more, n)))
      | inl e ↦ (let same : a.aside ≡ next.aside = same_Some a.aside next.aside (sym a.there ∙ (ap (slice_get w.asides.items) e ∙ next.there)) in
          let number_is : number ≡ number' = sym next.names ∙ (ap (λ (x : Aside). x.clause) (sym same) ∙ a.names) in
          let clause_is : clause ≡ c = same_Some clause c (sym named ∙ (ap (slice_get t.clauses) number_is ∙ named')) in
          record {
            index = w.held;
            aside = record next.aside { level = t.level };
            there = sets.here next.aside next.there;
            names = next.names ∙ number_is;
            met = λ _. excused_by t sound c l 0 1 t.level (ap (λ (d : List Lit). has d l) (sym clause_is) ∙ member) is_true (λ _. refl);
          })
    ]

-- ---- a clause that waits does so no more

pub watched_released : (t : TrailState) (w v : Watches) (number : ℕ) → AreWatched t w → IsNextWaiting w number → IsOpenAt t w number →
    Releases w v → AreWatched t v
watched_released t w v number watched next is_open releases = subst (AreWatched t) (sym releases.rest) (record {
  listing = watched.listing;
  head_few = watched.head_few;
  asides = record {
    few = omega (arith, releases.shorter, slice_get_within w.asides.items w.held next.aside next.there);
    rise = λ j k a b up below at_j at_k. watched.asides.rise j k a b up below (sym (releases.before j (omega (arith, up, below))) ∙ at_j)
        (sym (releases.before k below) ∙ at_k);
    low = λ k a below at. watched.asides.low k a below (sym (releases.before k below) ∙ at);
    known = λ k a at. (let r = releases.no_more k a at in watched.asides.known r.0 a r.1);
  };
  excused = λ number' c pair l named at of place e there false_by below. elim (cases_eq number' number) [
    | inl k ↦ absurd (false≢true (sym (is_open.not_false l (subst (λ (p : Pair). IsOf p l) (same_Some pair is_open.pair
        (same_Some (Some pair) (Some is_open.pair) (sym at ∙ (ap (slice_get w.pairs.items) k ∙ is_open.at)))) of))
        ∙ entry_has t.entries place e (negation l) there false_by))
    | inr n ↦ elim (watched.excused number' c pair l named at of place e there false_by below) [
      | inl x ↦ inl x
      | inr a ↦ inr (kept number' c n a)
    ]
  ];
  unpaired = λ number' c named at. elim (cases_eq number' number) [
    | inl k ↦ absurd (none-some is_open.pair (same_Some None (Some is_open.pair)
        (sym at ∙ (ap (slice_get w.pairs.items) k ∙ is_open.at))))
    | inr n ↦ kept number' c n (watched.unpaired number' c named at)
  ];
})
  where
    kept : (number' : ℕ) (c : List Lit) → (number' ≡ number → ⊥) → IsAside t.entries w.asides.items w.held number' c →
        IsAside t.entries v.asides.items w.held number' c
    kept number' c n a = elim (cases_lt a.index w.held) [
      | inl below ↦ aside_from a (releases.before a.index below ∙ a.there) a.met
      | inr above ↦ elim (cases_eq a.index w.held) [
        | inl e ↦ absurd (n (sym a.names ∙ (ap (λ (x : Aside). x.clause) (same_Some a.aside next.aside
            (sym a.there ∙ (ap (slice_get w.asides.items) e ∙ next.there))) ∙ next.names)))
        | inr d ↦ (let r = releases.behind a.index a.aside (omega (arith, above, d)) a.there in
            aside_from a r.2 (λ below. absurd (omega (arith, below, r.1))))
      ]
    ]

-- ---- a clause watches two literals

module _ {t : TrailState} {w : Watches} (v : Watches) {number : ℕ} {first second spare : Lit} (sound : IsSound t) (watched : AreWatched t w)
    (can : CanWatch t number first second) (third : has can.clause spare ≡ true) (attaches : Attaches w.lists.items number first second v.lists.items)
    (puts : PutsPair w.pairs.items number (pair_of first second spare) v.pairs.items) (within : number < length v.pairs.items)
    (wide : length w.pairs.items ≤ length v.pairs.items) (few : length v.pairs.items ≤ length t.clauses) where
  open attaches use {between, at_first, at_second}

  first_in : code_of first < length w.lists.items
  first_in = (lists_can sound watched can).0

  second_in : code_of second < length between
  second_in = omega (arith, (lists_can sound watched can).1, at_first.all)

  of_new : {n : ℕ} {pair : Pair} {l : Lit} → n ≡ number → IsPairOf v.pairs.items n pair → IsOf pair l → IsOf (pair_of first second spare) l
  of_new {n} {pair} {l} e at of = subst (λ (q : Pair). IsOf q l) (sym (same_Some (pair_of first second spare) pair (pair_is_new puts at e))) of

  new_listed : (l : Lit) → IsOf (pair_of first second spare) l → (index : ℕ) × HasWatch v.lists.items (code_of l) number index
  new_listed l (inl e) = subst (λ (z : Lit). (index : ℕ) × HasWatch v.lists.items (code_of z) number index) e
      (let r = has_watch_new at_first first_in in (r.0, has_watch_more at_second r.1))
  new_listed l (inr e) = subst (λ (z : Lit). (index : ℕ) × HasWatch v.lists.items (code_of z) number index) e
      (has_watch_new at_second second_in)

  listing_put : AreListed t.variables t.clauses v.lists.items v.pairs.items
  listing_put = record {
    lists_all = at_second.all ∙ (at_first.all ∙ watched.lists_all);
    pairs_few = few;
    blocked = blocked_more t.clauses at_second second_in (blocked_one t.clauses first within can.named can.member)
        (blocked_more t.clauses at_first first_in (blocked_one t.clauses second within can.named can.other)
        (blocked_within t.clauses w.lists.items wide watched.blocked));
    paired = λ n c pair named at. elim (cases_eq n number) [
      | inr d ↦ watched.paired n c pair named (pair_was puts at d)
      | inl e ↦ subst (IsPair c) (same_Some (pair_of first second spare) pair (pair_is_new puts at e))
          (subst (λ (d : List Lit). IsPair d (pair_of first second spare))
          (same_Some can.clause c (sym can.named ∙ (ap (slice_get t.clauses) (sym e) ∙ named)))
          (record { first = can.member; second = can.other; spare = third; apart = λ k. can.apart (sym k) }))
    ];
    listed = λ n pair l at of. elim (cases_eq n number) [
      | inr d ↦ (let r = watched.listed n pair l (pair_was puts at d) of in (r.0, has_watch_more at_second (has_watch_more at_first r.1)))
      | inl e ↦ subst (λ k. (index : ℕ) × HasWatch v.lists.items (code_of l) k index) (sym e) (new_listed l (of_new e at of))
    ];
  }

  -- its literals are not false, or it waits
  watched_put : v ≡ record w { lists = v.lists; pairs = v.pairs } → ((c : List Lit) (l : Lit) → IsOf (pair_of first second spare) l →
      (has (literals_of t.entries) (negation l) ≡ false) ⊎ IsAside t.entries w.asides.items w.held number c) → AreWatched t v
  watched_put rest settled = subst (AreWatched t) (sym rest) (record {
    listing = listing_put;
    head_few = watched.head_few;
    asides = asides_more (omega arith) wide watched.asides;
    excused = λ n c pair l named at of place x there false_by below. elim (cases_eq n number) [
      | inr d ↦ watched.excused n c pair l named (pair_was puts at d) of place x there false_by below
      | inl e ↦ elim (settled c l (of_new e at of)) [
        | inl free ↦ absurd (false≢true (sym free ∙ entry_has t.entries place x (negation l) there false_by))
        | inr a ↦ inr (subst (λ k. IsAside t.entries w.asides.items w.held k c) (sym e) a)
      ]
    ];
    unpaired = λ n c named at. elim (cases_eq n number) [
      | inr d ↦ watched.unpaired n c named (pair_was puts at d)
      | inl e ↦ absurd (none-some (pair_of first second spare) (sym (pair_is_new puts at e)))
    ];
  })

pub both_free : (trues : List Lit) (pair : Pair) → has trues (negation pair.first) ≡ false → has trues (negation pair.second) ≡ false →
    (l : Lit) → IsOf pair l → has trues (negation l) ≡ false
both_free trues pair first second l of = grind (arith, first, second, of)

-- the next clause is taken in, and watches two literals that are not false
pub watched_open : {t : TrailState} {w v : Watches} {number : ℕ} {first second : Lit} (spare : Lit) {literals : List Lit} → IsSound t →
    AreWatched t w → length w.pairs.items < length t.clauses → number ≡ length w.pairs.items → IsOpenBy t number first second →
    slice_get t.clauses number ≡ Some literals → has literals spare ≡ true → Attaches w.lists.items number first second v.lists.items →
    v.pairs.items ≡ w.pairs.items ++ Some (pair_of first second spare) ∷ [] → v ≡ record w { lists = v.lists; pairs = v.pairs } →
    AreWatched t v
watched_open {t} {w} {v} {number} {first} {second} spare {literals} sound watched more is free named third attaches pairs rest =
    let pair = pair_of first second spare in
    let count : length v.pairs.items ≡ length w.pairs.items + 1 = omega (arith, ap length pairs, length_push w.pairs.items (Some pair)) in
    watched_put v sound watched free.watch
    (ap (λ (ls : List Lit). has ls spare) (same_Some free.watch.clause literals (sym free.watch.named ∙ named)) ∙ third)
    attaches (subst (λ n. PutsPair w.pairs.items n pair v.pairs.items) (sym is)
    (subst (PutsPair w.pairs.items (length w.pairs.items) pair) (sym pairs) (pair_push w.pairs.items pair)))
    (omega (arith, is, count)) (omega (arith, count)) (omega (arith, count, more)) rest
    (λ c l of. inl (both_free (literals_of t.entries) pair free.first_free free.second_free l of))

-- the next clause that waits does
pub next_aside : {es : List Entry} {w : Watches} {number : ℕ} {clause : List Lit} → IsNextWaiting w number →
    IsAside es w.asides.items w.held number clause
next_aside {es} {w} next =
    record { index = w.held; aside = next.aside; there = next.there; names = next.names; met = λ below. absurd (omega (arith, below)) }

-- a clause that waits watches two literals
module _ {t : TrailState} {w b : Watches} (v : Watches) {number : ℕ} (first second : Lit) (watched : AreWatched t w)
    (next : IsNextWaiting w number) (lists_rest : b ≡ record w { lists = b.lists })
    (pairs : v.pairs.items ≡ set b.pairs.items number (Some (pair_of first second first))) where
  abbrev pair : Pair
  pair = pair_of first second first

  within_pairs : number < length w.pairs.items
  within_pairs = omega (arith, watched.asides.known w.held next.aside next.there, next.names)

  same_pairs : b.pairs.items ≡ w.pairs.items
  same_pairs = ap (λ (x : Watches). x.pairs.items) lists_rest

  pub both_puts : PutsPair w.pairs.items number pair v.pairs.items
  both_puts = subst (PutsPair w.pairs.items number pair) (sym pairs)
      (subst (λ (ps : List (Option Pair)). PutsPair w.pairs.items number pair (set ps number (Some pair))) (sym same_pairs)
      (pair_set w.pairs.items number pair within_pairs))

  both_count : length v.pairs.items ≡ length w.pairs.items
  both_count = ap length pairs ∙ (length-set b.pairs.items number (Some pair) ∙ ap length same_pairs)

  pub rewatches_both : IsSound t → CanWatch t number first second → Attaches w.lists.items number first second v.lists.items →
      v ≡ record w { lists = v.lists; pairs = v.pairs } → Rewatches t w v
  rewatches_both sound can attaches rest = record {
    watched = watched_put v sound watched can can.member attaches both_puts (omega (arith, within_pairs, both_count))
        (omega (arith, both_count)) (omega (arith, both_count, watched.pairs_few)) rest (λ c l of. inr (next_aside next));
    pairs = both_count;
    rest = rest;
  }

-- ---- the pair of a clause

pub watched_by : {w : Watches} {number : ℕ} {pair : Pair} {first second : Lit} → IsPairOf w.pairs.items number pair → IsOf pair first →
    IsOf pair second → (second ≡ first → ⊥) → IsWatchedBy w number first second
watched_by {w} {number} {pair} {first} {second} at p q apart =
    record { pair = pair; at = at; only = λ l of. grind (arith, p, q, of, apart) }

pub read_pair : (pairs : List (Option Pair)) {number : ℕ} {x : Option Pair} {pair : Pair} → number < length pairs →
    x ≡ get_or pairs number x → x ≡ Some pair → IsPairOf pairs number pair
read_pair pairs {number} {x} within read is = slice_get-get_or pairs number x within ∙ ap Some (sym read ∙ is)

pub pair_over : {t : TrailState} {w : Watches} (number : ℕ) {pair : Pair} {l : Lit} → IsSound t → AreWatched t w →
    IsPairOf w.pairs.items number pair → IsOf pair l → l.index < t.variables
pair_over {t} {w} number {pair} {l} sound watched at of =
    let c = slice_get_some t.clauses number (omega (arith, slice_get_within w.pairs.items number (Some pair) at, watched.pairs_few)) in
    over_literal t sound number c.0 l c.1 (of_clause (watched.paired number c.0 pair c.1 at) of)

-- ---- the next clause that waits

pub next_waits : {w : Watches} {x : Aside} → x ≡ get_or w.asides.items w.held x → w.held < length w.asides.items → IsNextWaiting w x.clause
next_waits {w} {x} read below = record {
  aside = x;
  there = slice_get-get_or w.asides.items w.held x below ∙ ap Some (sym read);
  names = refl;
}

pub next_within : {w : Watches} {number : ℕ} → IsNextWaiting w number → w.held < length w.asides.items
next_within {w} next = slice_get_within w.asides.items w.held next.aside next.there

pub next_known : {t : TrailState} {w : Watches} {number : ℕ} → AreWatched t w → IsNextWaiting w number → number < length t.clauses
next_known {t} {w} watched next =
    omega (arith, watched.asides.known w.held next.aside next.there, next.names, watched.pairs_few)

-- it still does where other literals are watched, and as much is to be looked at
module _ {t : TrailState} {w v : Watches} (r : Rewatches t w v) where
  pub waits_still : {number : ℕ} → IsNextWaiting w number → IsNextWaiting v number
  waits_still next =
      record { aside = next.aside; there = ap (λ (x : Watches). slice_get x.asides.items x.held) r.rest ∙ next.there; names = next.names }

  left_same : (count : ℕ) → left_of count v ≡ left_of count w
  left_same count = omega
      (arith, r.pairs, ap (λ (x : Watches). x.held) r.rest, ap (λ (x : Watches). length x.asides.items) r.rest)

  pub less_aside : {x : Watches} {number level : ℕ} → IsNextWaiting w number → SetsAside level v x → LooksAtOne w x
  less_aside next sets = λ count. omega
      (arith, left_same count, next_within (waits_still next), sets.all, sets.more, ap (λ (x : Watches). length x.pairs.items) sets.rest)

  pub less_released : {x : Watches} {number : ℕ} → IsNextWaiting w number → Releases v x → LooksAtOne w x
  less_released next releases = λ count. omega (
    arith,
    left_same count,
    next_within (waits_still next),
    releases.shorter,
    ap (λ (x : Watches). x.held) releases.rest,
    ap (λ (x : Watches). length x.pairs.items) releases.rest,
  )
