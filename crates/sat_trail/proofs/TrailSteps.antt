-- What a call looks at, and what it does with that.
use Rattle.std.proofs.Common.{replicate, set, leb, ◌≡◌, ℕ, suc, ◌+◌, ◌-◌, ◌*◌, ◌<◌, ◌≤◌, ◌^◌, min, Bool, true, false, not, cond, List, []}
use Rattle.std.proofs.Common.{◌∷◌, ◌++◌, length, take, Option, Some, None, slice_get, sym, ap, ◌∙◌, subst, refl, arith, inl, inr}
use Rattle.std.proofs.Common.{All, Contains}
use Rattle.std.specs.Prelude.{IsSome, position}
use Rattle.std.specs.List.{AllByRecursion, position_from}
use Rattle.std.proofs.lemmas.Iterator.Adapters.{position_from-zero}
use Rattle.std.proofs.lemmas.Option.{none-some, slice_get-get_or}
use Rattle.std.proofs.lemmas.List.{length-replicate, get_or-replicate, take_at, append_assoc, append-nil, length_push}
use Rattle.std.proofs.lemmas.List.{take_all, take-take}
use Rattle.std.proofs.lemmas.List.Elements.{All-push, All-nil, All-append, All-contains, All-from_recursion}
use Rattle.std.proofs.lemmas.Bool.{or_cases, or_left, or_right, true≢false, false≢true, cases_lt, cases_Bool, le-leb, lt-leb, cond-true}
use Rattle.std.proofs.lemmas.Bool.{cond-false}
use Rattle.base_library.proofs.Places.{slice_get-behind, slice_get_some, contains_at, last_split}
use Rattle.sat_trail.specs.declared.stack.Stack.TheInside.{Inside}
use Rattle.sat_trail.specs.internal.Tables.{IsPlaceTable, AreTruths}
use Rattle.clause_core.specs.Literals.{Lit, negation, same, has, code_of}
use Rattle.clause_core.specs.Clauses.{IsIncreasing, IsOver, has_pair}
use Rattle.clause_core.specs.Propagation.{not_false, IsFalse, IsUnit, IsQuiet}
use Rattle.clause_core.proofs.Sets.{IsIncreasing-apart, same_from, has_from_Contains}
use Rattle.clause_core.proofs.Sets.{Contains_from_has, same_is, code_within}
use Rattle.sat_trail.specs.declared.entries.Entry.{Entry}
use Rattle.sat_trail.specs.Entries.{literals_of, level_of, place_of, truth_of, MayStand}
use Rattle.sat_trail.specs.States.{started, TrailState, IsSound, extended, up_to, Propagates}
use Rattle.sat_trail.proofs.Places.{AreApart, place_found, value_set, entry_has, one_variable, table_pop}
use Rattle.sat_trail.proofs.Soundness.{apart_from, stand_take, level_step, level_within, levels_rise, level_of-push, AllStand}

-- ---- entries that may stand

-- a literal that is left is in the clause, and is not false
pub not_false_has : (trues clause : List Lit) (l : Lit) → has (not_false trues clause) l ≡ true →
    (has clause l ≡ true) × (has trues (negation l) ≡ false)
not_false_has trues [] l h = absurd (false≢true h)
not_false_has trues (x ∷ xs) l h = by_test (has trues (negation x)) refl (not_false_has trues xs l) h
  where
    by_test : (b : Bool) → has trues (negation x) ≡ b → (has (not_false trues xs) l ≡ true →
        (has xs l ≡ true) × (has trues (negation l) ≡ false)) → has (cond (not b) (x ∷ not_false trues xs) (not_false trues xs)) l ≡ true →
        (has (x ∷ xs) l ≡ true) × (has trues (negation l) ≡ false)
    by_test true e rest h = let r = rest h in (or_right (same x l) (has xs l) r.0, r.1)
    by_test false e rest h = elim (or_cases (same x l) (has (not_false trues xs) l) h) [
      | inl t ↦ (or_left (same x l) (has xs l) t, ap (λ (z : Lit). has trues (negation z)) (sym (same_is x l t)) ∙ e)
      | inr t ↦ (let r = rest t in (or_right (same x l) (has xs l) r.0, r.1))
    ]

not_false_member : (trues clause : List Lit) (l : Lit) → not_false trues clause ≡ l ∷ [] →
    (has clause l ≡ true) × (has trues (negation l) ≡ false)
not_false_member trues clause l h = not_false_has trues clause l
    (ap (λ (ls : List Lit). has ls l) h ∙ has_from_Contains (l ∷ []) l (0, omega arith, refl))

pub unset_from : (es : List Entry) (l : Lit) → has (literals_of es) l ≡ false → has (literals_of es) (negation l) ≡ false →
    place_of es l.index ≡ None
unset_from es l f g = by_place (place_of es l.index) refl
  where
    by_place : (o : Option ℕ) → place_of es l.index ≡ o → o ≡ None
    by_place None h = refl
    by_place (Some p) h =
        let r = place_found 0 es l.index p h in
        absurd (elim (one_variable r.2.entry.literal l r.2.is) [
          | inl e ↦ true≢false (sym (entry_has es r.0 r.2.entry l r.2.there e) ∙ f)
          | inr e ↦ true≢false (sym (entry_has es r.0 r.2.entry (negation l) r.2.there e) ∙ g)
        ])

pub has_one : (x l : Lit) → has (x ∷ []) l ≡ true → x ≡ l
has_one x l h = elim (or_cases (same x l) false h) [ inl t ↦ same_is x l t | inr f ↦ absurd (false≢true f) ]

pub has_not_false : (trues clause : List Lit) (l : Lit) → has clause l ≡ true → has trues (negation l) ≡ false →
    has (not_false trues clause) l ≡ true
has_not_false trues [] l h n = absurd (false≢true h)
has_not_false trues (x ∷ xs) l h n =
    elim (or_cases (same x l) (has xs l) h) [
      | inl t ↦ (let open' : has trues (negation x) ≡ false = ap (λ (z : Lit). has trues (negation z)) (same_is x l t) ∙ n in
          ap (λ (ls : List Lit). has ls l) (cond-true (not (has trues (negation x))) (x ∷ not_false trues xs) (not_false trues xs)
          (ap not open')) ∙ or_left (same x l) (has (not_false trues xs) l) t)
      | inr t ↦ by_test (not (has trues (negation x))) (has_not_false trues xs l t n)
    ]
  where
    by_test : (b : Bool) → has (not_false trues xs) l ≡ true → has (cond b (x ∷ not_false trues xs) (not_false trues xs)) l ≡ true
    by_test true h = or_right (same x l) (has (not_false trues xs) l) h
    by_test false h = h

-- nothing is left of a clause whose literals are all false
pub none_not_false : (trues clause : List Lit) → ((m : Lit) → has clause m ≡ true → has trues (negation m) ≡ true) →
    not_false trues clause ≡ []
none_not_false trues [] all = refl
none_not_false trues (x ∷ xs) all =
    cond-false (not (has trues (negation x))) (x ∷ not_false trues xs) (not_false trues xs)
    (ap not (all x (or_left (same x x) (has xs x) (same_from x x refl))))
    ∙ none_not_false trues xs (λ m h. all m (or_right (same x m) (has xs m) h))

-- one literal is left where it is not false and the others are
pub one_not_false : (trues clause : List Lit) (l : Lit) → IsIncreasing clause → has clause l ≡ true → has trues (negation l) ≡ false →
    ((m : Lit) → has clause m ≡ true → (m ≡ l → ⊥) → has trues (negation m) ≡ true) → not_false trues clause ≡ l ∷ []
one_not_false trues [] l up h open' others = absurd (false≢true h)
one_not_false trues (x ∷ xs) l up h open' others = elim (cases_Bool (same x l)) [
  | inl t ↦ (let is : x ≡ l = same_is x l t in
      cond-true (not (has trues (negation x))) (x ∷ not_false trues xs) (not_false trues xs)
      (ap not (ap (λ (z : Lit). has trues (negation z)) is ∙ open'))
      ∙ (ap (λ (ls : List Lit). x ∷ ls) (none_not_false trues xs (λ m k. others m (or_right (same x m) (has xs m) k)
      (λ e. IsIncreasing-apart x xs up (ap (has xs) (is ∙ sym e) ∙ k)))) ∙ ap (λ (z : Lit). z ∷ []) is))
  | inr f ↦ (let apart : x ≡ l → ⊥ = λ e. true≢false (sym (same_from x l e) ∙ f) in
      cond-false (not (has trues (negation x))) (x ∷ not_false trues xs) (not_false trues xs)
      (ap not (others x (or_left (same x x) (has xs x) (same_from x x refl)) apart))
      ∙ one_not_false trues xs l up.1 (in_rest f) open' (λ m k. others m (or_right (same x m) (has xs m) k)))
]
  where
    in_rest : same x l ≡ false → has xs l ≡ true
    in_rest f = elim (or_cases (same x l) (has xs l) h) [ inl t ↦ absurd (true≢false (sym t ∙ f)) | inr t ↦ t ]

pub forced_may_stand : (t : TrailState) → IsSound t → (number : ℕ) (clause : List Lit) (l : Lit) →
    slice_get t.clauses number ≡ Some clause → IsUnit (literals_of t.entries) clause l →
    MayStand t.variables t.clauses t.entries (record { literal = l; level = t.level; reason = Some number })
forced_may_stand t sound number clause l named unit =
    let member = not_false_member (literals_of t.entries) clause l unit.others_false in
    record {
      over = All-contains (λ m. m.index < t.variables) clause l (All-contains (IsOver t.variables) t.clauses clause sound.over
          (contains_at t.clauses number clause named)) (Contains_from_has clause l member.0);
      unset = unset_from t.entries l unit.unassigned member.1;
      cause = (sound.level_reached, record { clause = clause; named = named; others_false = unit.others_false });
    }

pub unassigned_unset : (es : List Entry) → AreApart es → (l : Lit) → truth_of es l ≡ None → place_of es l.index ≡ None
unassigned_unset es apart l h = by_place (place_of es l.index) refl
  where
    by_place : (o : Option ℕ) → place_of es l.index ≡ o → o ≡ None
    by_place None e = refl
    by_place (Some p) e =
        let r = place_found 0 es l.index p e in
        absurd (none-some (same r.2.entry.literal l) (sym h ∙ value_set es apart r.0 r.2.entry l r.2.there r.2.is))

pub decided_may_stand : (t : TrailState) → IsSound t → (l : Lit) → l.index < t.variables → truth_of t.entries l ≡ None →
    MayStand t.variables t.clauses t.entries (record { literal = l; level = t.level + 1; reason = None })
decided_may_stand t sound l below unassigned = record {
  over = below;
  unset = unassigned_unset t.entries (apart_from t.variables t.clauses t.entries sound.stand) l unassigned;
  cause = ap (λ n. n + 1) sound.level_reached;
}

-- ---- what a propagation adds

pub propagates_none : (t : TrailState) → Propagates t t
propagates_none t = record {
  added = [];
  rest_stays = ap (λ (es : List Entry). record t { entries = es }) (sym (append-nil t.entries));
  forced = All-nil (λ e. (e.level ≡ t.level) × IsSome e.reason);
}

pub propagates_more : (old t : TrailState) (e : Entry) → Propagates old t → e.level ≡ old.level → IsSome e.reason →
    Propagates old (extended t e)
propagates_more old t e grows level reason = record {
  added = grows.added ++ e ∷ [];
  rest_stays = ap (λ (s : TrailState). extended s e) grows.rest_stays
      ∙ (ap (λ (es : List Entry). record old { entries = es; level = e.level }) (append_assoc old.entries grows.added (e ∷ []))
      ∙ ap (λ n. record old { entries = old.entries ++ (grows.added ++ e ∷ []); level = n }) level);
  forced = All-push (λ d. (d.level ≡ old.level) × IsSome d.reason) grows.added e grows.forced (level, reason);
}

pub propagates_after : (old t new : TrailState) → Propagates old t → Propagates t new → Propagates old new
propagates_after old t new first then' = record {
  added = first.added ++ then'.added;
  rest_stays = then'.rest_stays ∙ (ap (λ (s : TrailState). record s { entries = s.entries ++ then'.added }) first.rest_stays
      ∙ ap (λ (es : List Entry). record old { entries = es }) (append_assoc old.entries first.added then'.added));
  forced = All-append (λ e. (e.level ≡ old.level) × IsSome e.reason) first.added then'.added first.forced
      (subst (λ n. All (λ e. (e.level ≡ n) × IsSome e.reason) then'.added)
      (ap (λ (s : TrailState). s.level) first.rest_stays) then'.forced);
}

contained_at : (clauses : List (List Lit)) (c : List Lit) → Contains clauses c → (k : ℕ) × (slice_get clauses k ≡ Some c)
contained_at clauses c (k, below, is) = (k, slice_get-get_or clauses k c below ∙ ap Some is)

-- the clause is not false, and not one unassigned literal with all others false
pub record IsOpen (trues clause : List Lit) : Type 0 where
  pub not_all_false : IsFalse trues clause → ⊥
  pub not_unit : (l : Lit) → IsUnit trues clause l → ⊥

-- two of its literals are not false
pub open_two : (trues clause : List Lit) → 1 < length (not_false trues clause) → IsOpen trues clause
open_two trues clause h = record {
  not_all_false = λ e. omega (arith, h, ap length e);
  not_unit = λ l u. omega (arith, h, ap length u.others_false);
}

-- one of its literals is true
pub open_true : (trues clause : List Lit) (l : Lit) → has (not_false trues clause) l ≡ true → has trues l ≡ true → IsOpen trues clause
open_true trues clause l left is_true = record {
  not_all_false = λ e. false≢true (sym (ap (λ (ls : List Lit). has ls l) e) ∙ left);
  not_unit = λ m u. (let e = has_one m l (ap (λ (ls : List Lit). has ls l) (sym u.others_false) ∙ left) in
      true≢false (sym (ap (has trues) e ∙ is_true) ∙ u.unassigned));
}

pub quiet_from : (trues : List Lit) (clauses : List (List Lit)) → ((k : ℕ) (c : List Lit) → slice_get clauses k ≡ Some c → IsOpen trues c) →
    IsQuiet clauses trues
quiet_from trues clauses all = record {
  none_false = λ (c, in', f). (let r = contained_at clauses c in' in (all r.0 c r.1).not_all_false f);
  none_unit = λ c l in' u. (let r = contained_at clauses c in' in (all r.0 c r.1).not_unit l u);
}

-- ---- taking back

pub up_to_all : (level : ℕ) (es : List Entry) → ((k : ℕ) (e : Entry) → slice_get es k ≡ Some e → e.level ≤ level) → up_to level es ≡ es
up_to_all level [] h = refl
up_to_all level (e ∷ es) h = cond-true (leb e.level level) (e ∷ up_to level es) (up_to level es) (le-leb e.level level (h 0 e refl))
    ∙ ap (λ (xs : List Entry). e ∷ xs) (up_to_all level es (λ k d at. h (suc k) d at))

pub up_to-push : (level : ℕ) (es : List Entry) (e : Entry) → level < e.level → up_to level (es ++ e ∷ []) ≡ up_to level es
up_to-push level [] e h = cond-false (leb e.level level) (e ∷ []) [] (lt-leb e.level level h)
up_to-push level (x ∷ es) e h = ap (λ (xs : List Entry). cond (leb x.level level) (x ∷ xs) xs) (up_to-push level es e h)

-- ---- taking back one entry after another

-- the entries that are left when the last of them was taken back
pub record TakesBack (variables level : ℕ) (places : List (Option ℕ)) (start es ys : List Entry) (e : Entry) : Type 0 where
  pub below : e.literal.index < variables
  pub front : ys ≡ take (length ys) start
  pub shorter : length ys + 1 ≡ length es
  pub left : up_to level ys ≡ up_to level es
  pub table : IsPlaceTable variables (set places e.literal.index None) ys
  pub unset : place_of ys e.literal.index ≡ None
  pub top : level ≤ level_of ys

pub takes_back : (variables : ℕ) (clauses : List (List Lit)) (level : ℕ) (places : List (Option ℕ)) (start es ys : List Entry) (e : Entry) →
    AllStand variables clauses start → es ≡ take (length es) start → IsPlaceTable variables places es → es ≡ ys ++ e ∷ [] →
    level < e.level → TakesBack variables level places start es ys e
takes_back variables clauses level places start es ys e stand front table is above =
    let here : AllStand variables clauses es = subst (AllStand variables clauses) (sym front)
    (stand_take variables clauses start (length es) stand) in
    let at : slice_get es (length ys) ≡ Some e = ap (λ (xs : List Entry). slice_get xs (length ys)) is ∙ slice_get-behind ys e [] in
    let before : take (length ys) es ≡ ys = ap (take (length ys)) is ∙ take_at ys (e ∷ []) (length ys) refl in
    let may : MayStand variables clauses ys e = subst (λ (xs : List Entry). MayStand variables clauses xs e) before
    (here (length ys) e at) in
    let n : length ys + 1 ≡ length es = sym (ap length is ∙ length_push ys e) in
    record {
      below = may.over;
      front = sym before ∙ (ap (take (length ys)) front ∙ take-take (length ys) (length es) start (omega arith));
      shorter = n;
      left = sym (ap (up_to level) is ∙ up_to-push level ys e above);
      table = table_pop variables places ys e (subst (IsPlaceTable variables places) is table) may.over may.unset;
      unset = may.unset;
      top = omega (arith, (level_step variables clauses ys e may).1);
    }

-- what is left where the last entry is not above the level
pub left_is : (variables : ℕ) (clauses : List (List Lit)) (level : ℕ) (start es : List Entry) → AllStand variables clauses start →
    es ≡ take (length es) start → length es ≤ length start → level_of es ≤ level → (length es < length start → level ≤ level_of es) →
    up_to level es ≡ up_to level start → (es ≡ up_to level start) × (min level (level_of start) ≡ level_of es)
left_is variables clauses level start es stand front short top taken left =
    let here : AllStand variables clauses es = subst (AllStand variables clauses) (sym front)
    (stand_take variables clauses start (length es) stand) in (
      sym (up_to_all level es (λ k e at. (let h : e.level ≤ level = omega (arith, level_within variables clauses es here k e at) in h)))
          ∙ left,
      elim (cases_lt (length es) (length start)) [
        | inl less ↦ (let a = taken less in
            let rise = levels_rise variables clauses start stand (length es) (length start) short in
            omega (arith, top, a, rise, ap level_of front, ap level_of (take_all (length start) start (omega arith))))
        | inr all ↦ (let same : es ≡ start = front ∙ take_all (length es) start all in
            omega (arith, top, ap level_of same))
      ],
    )

-- ---- a trail's beginning

none_from : {X : Type 0} (p : X → Bool) (n : ℕ) (xs : List X) → position_from p n xs ≡ None → AllByRecursion (λ x. p x ≡ false) xs
none_from p n [] h = tt
none_from p n (x ∷ xs) h = by_test (p x) refl (none_from p (n + 1) xs) h
  where
    by_test : (b : Bool) → p x ≡ b → (position_from p (n + 1) xs ≡ None → AllByRecursion (λ y. p y ≡ false) xs) →
        cond b (Some n) (position_from p (n + 1) xs) ≡ None → AllByRecursion (λ y. p y ≡ false) (x ∷ xs)
    by_test true e rest h = absurd (none-some n (sym h))
    by_test false e rest h = (e, rest h)

-- where no first clause is found that has a literal and its negation, no clause has
pub no_pairs_from : (clauses : List (List Lit)) → position has_pair clauses ≡ None → All (λ c. has_pair c ≡ false) clauses
no_pairs_from clauses none = All-from_recursion (λ c. has_pair c ≡ false) clauses
    (none_from has_pair 0 clauses (sym (position_from-zero has_pair clauses) ∙ none))

pub sound_started : (variables : ℕ) (clauses : List (List Lit)) → variables < 2 ^ 31 → length clauses < 2 ^ 32 →
    All (IsOver variables) clauses → All (λ c. has_pair c ≡ false) clauses → IsSound (started variables clauses)
sound_started variables clauses few_variables few_clauses over no_pairs = record {
  few_variables = few_variables;
  few_clauses = few_clauses;
  over = over;
  no_pairs = no_pairs;
  stand = λ k e at. absurd (none-some e at);
  level_reached = refl;
}

pub table_started : (variables : ℕ) (places : List (Option ℕ)) → places ≡ replicate variables None → IsPlaceTable variables places []
table_started variables places is = record {
  all = ap length is ∙ length-replicate variables None;
  each = λ i below. ap (λ (xs : List (Option ℕ)). slice_get xs i) is
      ∙ (slice_get-get_or (replicate variables None) i None (omega (arith, length-replicate {A = Option ℕ} variables None))
      ∙ ap Some (get_or-replicate variables i None None below));
}

none_true : (n i : ℕ) → i < n → slice_get (replicate n false) i ≡ Some false
none_true n i below = slice_get-get_or (replicate n false) i false (omega (arith, length-replicate {A = Bool} n false))
    ∙ ap Some (get_or-replicate n i false false below)

pub truths_started : (variables : ℕ) (truths : List Bool) → truths ≡ replicate (2 * variables) false → AreTruths variables truths []
truths_started variables truths is = record {
  all = ap length is ∙ length-replicate (2 * variables) false;
  each = λ l below. ap (λ (xs : List Bool). slice_get xs (code_of l)) is
      ∙ none_true (2 * variables) (code_of l) (code_within variables l below);
}

-- ---- what is left

pub top_some : (es : List Entry) (e : Entry) (level : ℕ) → slice_get es (length es - 1) ≡ Some e → e.level ≤ level → level_of es ≤ level
top_some es e level at h = omega (arith, ap level_of (last_split es e at), level_of-push (take (length es - 1) es) e)

pub top_none : (es : List Entry) (level : ℕ) → slice_get es (length es - 1) ≡ None → level_of es ≤ level
top_none [] level h = omega arith
top_none (e ∷ es) level h = absurd (some_there (slice_get_some (e ∷ es) (suc (length es) - 1) (omega arith)))
  where
    some_there : (x : Entry) × (slice_get (e ∷ es) (suc (length es) - 1) ≡ Some x) → ⊥
    some_there r = none-some r.0 (sym h ∙ r.1)

-- the trail that a stack's fields make
abbrev pub seen : Inside → TrailState
seen s = record { variables = s.variables; clauses = s.clauses; entries = s.entries.items; level = s.level; broken = s.broken }

pub state_same : {v w : ℕ} {cs ds : List (List Lit)} {es fs : List Entry} {m n : ℕ} {a b : Bool} → v ≡ w → cs ≡ ds → es ≡ fs → m ≡ n →
    a ≡ b → ◌≡◌ {A = TrailState} (record { variables = v; clauses = cs; entries = es; level = m; broken = a })
    (record { variables = w; clauses = ds; entries = fs; level = n; broken = b })
state_same p q r s t = λ i. record { variables = p i; clauses = q i; entries = r i; level = s i; broken = t i }

pub sound_left : (t : TrailState) (level : ℕ) (es : List Entry) → IsSound t → es ≡ take (length es) t.entries →
    min level t.level ≡ level_of es → IsSound (record t { entries = es; level = min level t.level })
sound_left t level es sound front is = record {
  few_variables = sound.few_variables;
  few_clauses = sound.few_clauses;
  over = sound.over;
  no_pairs = sound.no_pairs;
  stand = subst (AllStand t.variables t.clauses) (sym front) (stand_take t.variables t.clauses t.entries (length es) sound.stand);
  level_reached = is;
}
