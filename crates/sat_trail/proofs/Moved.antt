-- A watch goes to another literal of its clause: what the visit keeps.
use Rattle.std.proofs.Common.{◌≡◌, ℕ, ◌+◌, ◌<◌, ◌⊎◌, true, false, List, [], ◌∷◌, length, Some, slice_get, get_or, sym, ap, ◌∙◌, subst, refl}
use Rattle.std.proofs.Common.{arith, inl, inr}
use Rattle.std.proofs.lemmas.Option.{slice_get_within, same_Some, none-some, get_or_from_slice_get}
use Rattle.std.proofs.lemmas.Bool.{false≢true, cases_lt, cases_eq}
use Rattle.base_library.proofs.Places.{contains_at}
use Rattle.clause_core.specs.Literals.{Lit, negation, same, has, code_of}
use Rattle.clause_core.proofs.Sets.{code_one, has_from_Contains, same_from, AllByRecursion-has}
use Rattle.sat_trail.specs.declared.watches.Watch.{Watch}
use Rattle.sat_trail.specs.declared.watches.Pair.{Pair}
use Rattle.sat_trail.specs.declared.watches.Watches.{Watches}
use Rattle.sat_trail.specs.Entries.{literals_of}
use Rattle.sat_trail.specs.States.{TrailState, IsSound}
use Rattle.sat_trail.specs.internal.Watching.{HasWatch, HasList, TakesOut, AddsWatch, DropsWatch, IsOf, IsPairOf, IsPair, HasNoMore, PutsPair, AreBlocked, AreWatched}
use Rattle.sat_trail.specs.internal.Watching.{IsVisit, AreDue, Visits, IsFree, IsPairIn, IsNextPair}
use Rattle.sat_trail.proofs.Soundness.{over_literal}
use Rattle.sat_trail.proofs.Places.{entry_has}
use Rattle.sat_trail.proofs.TrailSteps.{propagates_none}
use Rattle.sat_trail.proofs.Stays.{lists_have, asides_more}
use Rattle.sat_trail.proofs.WatchLists.{has_watch_same, has_watch_more, has_watch_new, blocked_one, blocked_within}
use Rattle.sat_trail.proofs.WatchLists.{blocked_more, blocked_less, pair_was, pair_is_new}
use Rattle.sat_trail.proofs.Visits.{HasOther, other_in, of_clause, visits_on}

-- ---- the pair that is watched next

pub spare_over : (t : TrailState) → IsSound t → (number : ℕ) (pair : Pair) → IsPairIn t number pair → pair.spare.index < t.variables
spare_over t sound number pair h = over_literal t sound number h.clause pair.spare h.named h.is.spare

-- the literals of a clause of three, where the spare one is not of the pair
pub no_more : (clause : List Lit) (p : Pair) → length clause ≡ 3 → same p.spare p.first ≡ false → same p.spare p.second ≡ false →
    IsPair clause p → HasNoMore clause p
no_more (x ∷ y ∷ z ∷ []) p three a b is l member =
    let of : (m : Lit) → has (x ∷ y ∷ z ∷ []) m ≡ true → (x ≡ m) ⊎ ((y ≡ m) ⊎ (z ≡ m)) =
    λ m. AllByRecursion-has (λ n. (x ≡ n) ⊎ ((y ≡ n) ⊎ (z ≡ n))) (x ∷ y ∷ z ∷ []) m (inl refl, (inr (inl refl), (inr (inr refl), tt))) in
    let apart : (m : Lit) → same p.spare m ≡ false → p.spare ≡ m → ⊥ = λ m h e. false≢true (sym h ∙ same_from p.spare m e) in
    grind (arith, of p.first is.first, of p.second is.second, of p.spare is.spare, of l member, is.apart, apart p.first a, apart p.second b)
no_more [] p three a b is l member = absurd (omega (arith, three))
no_more (x ∷ []) p three a b is l member = absurd (omega (arith, three))
no_more (x ∷ y ∷ []) p three a b is l member = absurd (omega (arith, three))
no_more (x ∷ y ∷ z ∷ w ∷ rest) p three a b is l member = absurd (omega (arith, three))

module _ {t : TrailState} {number : ℕ} {pair : Pair} {other spare first : Lit} (h : IsPairIn t number pair)
    (of : IsOf pair other) (of_spare : IsOf pair spare) where
  next_of : has h.clause first ≡ true → (first ≡ other → ⊥) → has (literals_of t.entries) (negation first) ≡ false →
      IsNextPair t number other (record { first = first; second = other; spare = spare })
  next_of member apart not_false = record {
    is_in = record {
      clause = h.clause;
      named = h.named;
      is = record { first = member; second = of_clause h.is of; spare = of_clause h.is of_spare; apart = apart };
    };
    second = refl;
    not_false = not_false;
  }

  -- the first literal stands at a position in the clause
  pub next_found : {literals : List Lit} {position : ℕ} → slice_get t.clauses number ≡ Some literals →
      IsFree (literals_of t.entries) literals other position → first ≡ get_or literals position first →
      IsNextPair t number other (record { first = first; second = other; spare = spare })
  next_found {literals} {position} named found read =
      let is : first ≡ found.literal = read ∙ get_or_from_slice_get literals position found.literal first found.there in
      next_of (ap (λ (ls : List Lit). has ls first) (same_Some h.clause literals (sym h.named ∙ named))
      ∙ (ap (has literals) is ∙ has_from_Contains literals found.literal (contains_at literals position found.literal found.there)))
      (λ e. found.apart (sym is ∙ e)) (ap (λ (l : Lit). has (literals_of t.entries) (negation l)) is ∙ found.not_false)

-- ---- the literal to which the watch goes

module _ {t : TrailState} {w : Watches} {f : Lit} {least : ℕ} (first : Lit) (visit : IsVisit t w f least)
    (not_false : has (literals_of t.entries) (negation first) ≡ false) where
  -- it is not the one that is visited, which is false
  fresh_differs : first ≡ f → ⊥
  fresh_differs e = false≢true (sym not_false ∙ (ap (λ (l : Lit). has (literals_of t.entries) (negation l)) e
      ∙ entry_has t.entries w.head visit.entry (negation f) visit.there visit.is))

  codes_differ : code_of f ≡ code_of first → ⊥
  codes_differ e = fresh_differs (sym (code_one f first e))

  -- so the list of the one that is visited is as long as before
  pub list_kept : {watch : Watch} {more : List (List Watch)} → AddsWatch w.lists.items (code_of first) watch more →
      HasList more (code_of f) least
  list_kept adds = record {
    list = visit.list.list;
    listed = adds.others (code_of f) codes_differ ∙ visit.list.listed;
    long = visit.list.long;
  }

-- ---- the watch is moved

-- a watch of the clause is added to the list of the first literal, and taken out of the list of the one that is visited
pub record Moves (t : TrailState) (w v : Watches) (f : Lit) (index : ℕ) : Type 0 where
  pub watch : Watch
  pub other : Lit
  pub new : Pair
  pub between : List (List Watch)
  pub was_read : HasOther t w f index watch other
  pub next : IsNextPair t watch.clause other new
  pub adds : AddsWatch w.lists.items (code_of new.first) (record { clause = watch.clause; blocker = other }) between
  pub drops : DropsWatch between (code_of f) index v.lists.items
  pub puts : PutsPair w.pairs.items watch.clause new v.pairs.items
  pub count : length v.pairs.items ≡ length w.pairs.items
  pub rest : v ≡ record w { lists = v.lists; pairs = v.pairs }

module _ {t : TrailState} {w v : Watches} {f : Lit} {index : ℕ} (m : Moves t w v f index) where
  open m use {watch, other, new, between, was_read, next.{second, not_false}, adds, drops, puts, count, rest}
  open m.next.is_in use {clause, named, is}
  open m.was_read use {pair, at, of}
  open m.was_read.read use {ready.{sound, watched}, visiting.{visit, due}, visiting.visit.list.{list, listed}, there}

  unlike : other ≡ f → ⊥
  unlike = m.was_read.apart (watched.paired watch.clause clause pair named at).apart

  in_other : has clause other ≡ true
  in_other = other_in was_read clause named

  first_within : code_of new.first < length w.lists.items
  first_within = lists_have t w sound watched watch.clause clause new.first named is.first

  -- the list from which the watch is taken is as before
  list_between : slice_get between (code_of f) ≡ Some list
  list_between = adds.others (code_of f) (codes_differ new.first visit not_false) ∙ listed

  less : (xs : List Watch) × (slice_get v.lists.items (code_of f) ≡ Some xs) × TakesOut list index xs
  less = drops.here list list_between

  -- in that list a watch of another clause stands at another index
  elsewhere : (number i : ℕ) → (number ≡ watch.clause → ⊥) → (h : HasWatch w.lists.items (code_of f) number i) →
      (slice_get list i ≡ Some h.watch) × (i ≡ index → ⊥)
  elsewhere number i n h =
      let same_list : h.list ≡ list = same_Some h.list list (sym h.listed ∙ listed) in
      let at_i : slice_get list i ≡ Some h.watch = ap (λ (xs : List Watch). slice_get xs i) (sym same_list) ∙ h.there in (
        at_i,
        λ e. n (sym h.names ∙ ap (λ (x : Watch). x.clause) (same_Some h.watch watch (sym at_i ∙ (ap (slice_get list) e ∙ there)))),
      )

  -- and it stays in some list's place
  stays : (code number i : ℕ) → (number ≡ watch.clause → ⊥) → HasWatch w.lists.items code number i →
      (j : ℕ) × HasWatch v.lists.items code number j
  stays code number i n has' = elim (cases_eq code (code_of f)) [
    | inl e ↦ subst (λ k. (j : ℕ) × HasWatch v.lists.items k number j) (sym e)
        (in_less (subst (λ k. HasWatch w.lists.items k number i) e has'))
    | inr d ↦ (i, has_watch_same (drops.others code d) (has_watch_more adds has'))
  ]
    where
      in_less : HasWatch w.lists.items (code_of f) number i → (j : ℕ) × HasWatch v.lists.items (code_of f) number j
      in_less h =
          let p = elsewhere number i n h in
          let r = less.2.others i h.watch p.1 p.0 in
          (r.0, record { list = less.0; watch = h.watch; listed = less.1; there = r.1; names = h.names })

  -- a literal of the moved pair is the first or the other one
  of_new : (number : ℕ) (p : Pair) (l : Lit) → number ≡ watch.clause → IsPairOf v.pairs.items number p → IsOf p l → IsOf new l
  of_new number p l e h of_l = subst (λ (q : Pair). IsOf q l) (sym (same_Some new p (pair_is_new puts h e))) of_l

  -- the literals of the new pair are watched
  new_listed : (l : Lit) → IsOf new l → (j : ℕ) × HasWatch v.lists.items (code_of l) watch.clause j
  new_listed l (inl e) = subst (λ (z : Lit). (j : ℕ) × HasWatch v.lists.items (code_of z) watch.clause j) e
      (let n = has_watch_new adds first_within in
      (n.0, has_watch_same (drops.others (code_of new.first) (λ k. codes_differ new.first visit not_false (sym k))) n.1))
  new_listed l (inr e) = subst (λ (z : Lit). (j : ℕ) × HasWatch v.lists.items (code_of z) watch.clause j) e
      (subst (λ (z : Lit). (j : ℕ) × HasWatch v.lists.items (code_of z) watch.clause j) (sym second)
      (let o = watched.listed watch.clause pair other at of in
      (o.0, has_watch_same (drops.others (code_of other) (λ k. unlike (code_one other f k))) (has_watch_more adds o.1))))

  new_blocked : AreBlocked t.clauses (length v.pairs.items) v.lists.items
  new_blocked =
      let within : watch.clause < length v.pairs.items = omega (arith, slice_get_within w.pairs.items watch.clause (Some pair) at, count) in
      blocked_less t.clauses drops list_between (blocked_more t.clauses adds first_within
      (blocked_one t.clauses other within named in_other) (blocked_within t.clauses w.lists.items (omega (arith, count)) watched.blocked))

  watched_moved : AreWatched t v
  watched_moved = subst (AreWatched t) (sym rest) (record {
    listing = record {
      lists_all = drops.all ∙ (adds.all ∙ watched.lists_all);
      pairs_few = omega (arith, count, watched.pairs_few);
      blocked = new_blocked;
      paired = λ number c p named_c h. elim (cases_eq number watch.clause) [
        | inl e ↦ (let c_is : clause ≡ c = same_Some clause c (sym named ∙ (ap (slice_get t.clauses) (sym e) ∙ named_c)) in
            subst (λ (d : List Lit). IsPair d p) c_is (subst (IsPair clause) (same_Some new p (pair_is_new puts h e)) is))
        | inr n ↦ watched.paired number c p named_c (pair_was puts h n)
      ];
      listed = λ number p l h of_l. elim (cases_eq number watch.clause) [
        | inl e ↦ subst (λ n. (j : ℕ) × HasWatch v.lists.items (code_of l) n j) (sym e) (new_listed l (of_new number p l e h of_l))
        | inr n ↦ (let r = watched.listed number p l (pair_was puts h n) of_l in stays (code_of l) number r.0 n r.1)
      ];
    };
    head_few = watched.head_few;
    asides = asides_more (omega arith) (omega (arith, count)) watched.asides;
    excused = λ number c p l named_c h of_l place e at_e false_by below. elim (cases_eq number watch.clause) [
      | inr n ↦ watched.excused number c p l named_c (pair_was puts h n) of_l place e at_e false_by below
      | inl k ↦ elim (of_new number p l k h of_l) [
        | inl g ↦ absurd (false≢true (sym not_false ∙ (ap (λ (z : Lit). has (literals_of t.entries) (negation z)) g
            ∙ entry_has t.entries place e (negation l) at_e false_by)))
        | inr g ↦ watched.excused number c pair l named_c (ap (slice_get w.pairs.items) k ∙ at) (subst (IsOf pair) (sym second ∙ g) of)
            place e at_e false_by below
      ]
    ];
    unpaired = λ number c named_c h. watched.unpaired number c named_c (pair_was puts h (λ e. none-some new (sym (pair_is_new puts h e))));
  })

  pub due_moved : AreDue t v f index
  due_moved = subst (λ (x : Watches). AreDue t x f index) (sym rest) (λ number c p named_c h of_f.
      elim (cases_eq number watch.clause) [
        | inl e ↦ absurd (elim (of_new number p f e h of_f) [
          | inl k ↦ fresh_differs new.first visit not_false k
          | inr k ↦ unlike (sym second ∙ k)
        ])
        | inr n ↦ elim (due number c p named_c (pair_was puts h n) of_f) [
          | inl x ↦ inl x
          | inr r ↦ inr (earlier number r.0 r.1 r.2 n)
        ]
      ])
    where
      earlier : (number i : ℕ) → i < index + 1 → HasWatch w.lists.items (code_of f) number i → (number ≡ watch.clause → ⊥) →
          (j : ℕ) × (j < index) × HasWatch v.lists.items (code_of f) number j
      earlier number i below h n =
          let p = elsewhere number i n h in
          let less_i : i < index = elim (cases_lt i index) [ inl k ↦ k | inr k ↦ absurd (p.1 (omega arith)) ] in (
            i,
            less_i,
            record { list = less.0; watch = h.watch; listed = less.1; there = less.2.before i less_i ∙ p.0; names = h.names },
          )

  pub visits_moved : Visits t t v f index
  visits_moved = visits_on visit (propagates_none t) watched_moved (record {
    list = less.0;
    listed = less.1;
    long = omega (arith, less.2.shorter, slice_get_within list index watch there);
  }) rest
