-- The lists of watches when one has a watch more or less.
use Rattle.std.proofs.Common.{◌≡◌, ℕ, ◌<◌, ◌≤◌, true, List, [], ◌∷◌, ◌++◌, length, set, Option, Some, slice_get, sym, ap, ◌∙◌, subst, refl, arith, inl}
use Rattle.std.proofs.Common.{inr}
use Rattle.std.proofs.lemmas.Option.{same_Some, slice_get_past}
use Rattle.std.proofs.lemmas.List.{length_push}
use Rattle.std.proofs.lemmas.Bool.{cases_lt, cases_eq}
use Rattle.base_library.proofs.Places.{slice_get-front, slice_get-behind, slice_get_grown, slice_get_push, slice_get_some, slice_get_set, slice_get_set_same}
use Rattle.clause_core.specs.Literals.{Lit, has}
use Rattle.sat_trail.specs.declared.watches.Watch.{Watch}
use Rattle.sat_trail.specs.declared.watches.Pair.{Pair}
use Rattle.sat_trail.specs.internal.Watching.{HasWatch, AddsWatch, DropsWatch, PutsPair, IsBlocked, AreBlocked}

-- ---- what is in a list

-- a list that is as before has what it had
pub has_watch_same : {old new : List (List Watch)} {code number index : ℕ} → slice_get new code ≡ slice_get old code →
    HasWatch old code number index → HasWatch new code number index
has_watch_same same h = record { list = h.list; watch = h.watch; listed = same ∙ h.listed; there = h.there; names = h.names }

-- what is in a list stays where one more is added
pub has_watch_more : {old new : List (List Watch)} {code : ℕ} {watch : Watch} → AddsWatch old code watch new → {other number index : ℕ} →
    HasWatch old other number index → HasWatch new other number index
has_watch_more {old} {new} {code} {watch} adds {other} {number} {index} h = elim (cases_eq other code) [
  | inl e ↦ record {
    list = h.list ++ watch ∷ [];
    watch = h.watch;
    listed = ap (slice_get new) e ∙ adds.here h.list (ap (slice_get old) (sym e) ∙ h.listed);
    there = slice_get_grown h.list (watch ∷ []) index h.watch h.there;
    names = h.names;
  }
  | inr n ↦ has_watch_same (adds.others other n) h
]

-- and the new watch is in it
pub has_watch_new : {old new : List (List Watch)} {code : ℕ} {watch : Watch} → AddsWatch old code watch new → code < length old →
    (index : ℕ) × HasWatch new code watch.clause index
has_watch_new {old} {new} {code} {watch} adds within =
    let r = slice_get_some old code within in (
      length r.0,
      record {
        list = r.0 ++ watch ∷ [];
        watch = watch;
        listed = adds.here r.0 r.1;
        there = slice_get-behind r.0 watch [];
        names = refl;
      },
    )

-- ---- a clause gets another pair

pub pair_set : (old : List (Option Pair)) (number : ℕ) (pair : Pair) → number < length old → PutsPair old number pair (set old number (Some pair))
pair_set old number pair within = record {
  here = slice_get_set_same old number (Some pair) within;
  others = λ k apart. slice_get_set old number k (Some pair) apart;
}

pub pair_push : (old : List (Option Pair)) (pair : Pair) → PutsPair old (length old) pair (old ++ Some pair ∷ [])
pair_push old pair = record {
  here = slice_get-behind old (Some pair) [];
  others = λ k apart. elim (cases_lt k (length old)) [
    | inl below ↦ slice_get-front old (Some pair ∷ []) k below
    | inr above ↦ slice_get_past (old ++ Some pair ∷ []) k (omega (arith, above, apart, length_push old (Some pair)))
        ∙ sym (slice_get_past old k above)
  ];
}

module _ {old new : List (Option Pair)} {at : ℕ} {pair : Pair} (puts : PutsPair old at pair new) {number : ℕ} {o : Option Pair}
    (read : slice_get new number ≡ Some o) where
  pub pair_was : (number ≡ at → ⊥) → slice_get old number ≡ Some o
  pair_was n = sym (puts.others number n) ∙ read

  pub pair_is_new : number ≡ at → Some pair ≡ o
  pair_is_new e = same_Some (Some pair) o (sym puts.here ∙ (ap (slice_get new) (sym e) ∙ read))

-- ---- the blockers

module _ (clauses : List (List Lit)) {count : ℕ} where
  pub blocked_one : {number : ℕ} {clause : List Lit} (l : Lit) → number < count → slice_get clauses number ≡ Some clause →
      has clause l ≡ true → IsBlocked clauses count (record { clause = number; blocker = l })
  blocked_one {number} {clause} l within named member = (
    within,
    λ c at. ap (λ (d : List Lit). has d l) (same_Some c clause (sym at ∙ named)) ∙ member,
  )

  pub blocked_within : {least : ℕ} (lists : List (List Watch)) → least ≤ count → AreBlocked clauses least lists →
      AreBlocked clauses count lists
  blocked_within lists h all code index list watch listed there =
      let r = all code index list watch listed there in
      (omega (arith, r.0, h), r.1)

  pub blocked_more : {code : ℕ} {old new : List (List Watch)} {watch : Watch} → AddsWatch old code watch new → code < length old →
      IsBlocked clauses count watch → AreBlocked clauses count old → AreBlocked clauses count new
  blocked_more {code} {old} {new} {watch} adds within blocked all other index list w listed there = elim (cases_eq other code) [
    | inr n ↦ all other index list w (sym (adds.others other n) ∙ listed) there
    | inl e ↦ (let r = slice_get_some old code within in
        let is : r.0 ++ watch ∷ [] ≡ list = same_Some (r.0 ++ watch ∷ []) list
        (sym (adds.here r.0 r.1) ∙ (ap (slice_get new) (sym e) ∙ listed)) in
        elim (slice_get_push r.0 watch index w (ap (λ (xs : List Watch). slice_get xs index) is ∙ there)) [
          | inl p ↦ all code index r.0 w r.1 p.1
          | inr p ↦ subst (IsBlocked clauses count) p.1 blocked
        ])
  ]

  pub blocked_less : {code index : ℕ} {old new : List (List Watch)} {list : List Watch} → DropsWatch old code index new →
      slice_get old code ≡ Some list → AreBlocked clauses count old → AreBlocked clauses count new
  blocked_less {code} {index} {old} {new} {list} drops listed all other i xs w now there = elim (cases_eq other code) [
    | inr n ↦ all other i xs w (sym (drops.others other n) ∙ now) there
    | inl e ↦ (let r = drops.here list listed in
        let same : r.0 ≡ xs = same_Some r.0 xs (sym r.1 ∙ (ap (slice_get new) (sym e) ∙ now)) in
        let q = r.2.no_more i w (ap (λ (ys : List Watch). slice_get ys i) same ∙ there) in
        all code q.0 list w listed q.1)
  ]
