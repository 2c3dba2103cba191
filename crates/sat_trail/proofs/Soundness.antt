-- What holds of every trail stays when it changes.
use Rattle.std.proofs.Common.{◌≡◌, ℕ, zero, suc, ◌+◌, ◌<◌, ◌≤◌, ◌^◌, Bool, false, List, [], ◌∷◌, ◌++◌, length, take, Option, Some, None}
use Rattle.std.proofs.Common.{slice_get, sym, ap, ◌∙◌, subst, refl, arith, inl, inr, MatchOption, true}
use Rattle.std.proofs.lemmas.Option.{slice_get_within}
use Rattle.std.proofs.lemmas.List.{take-append-le, take_all, take_at, take-take, length_push}
use Rattle.std.proofs.lemmas.List.Elements.{All-push, All-contains}
use Rattle.std.proofs.lemmas.Bool.{cases_lt, false_from_ne_true}
use Rattle.base_library.proofs.Places.{take_next, slice_get_grown, slice_get_push, slice_get-take, slice_get_some, contains_at}
use Rattle.clause_core.specs.Literals.{Lit, has, negation}
use Rattle.clause_core.specs.Clauses.{IsOver, has_pair}
use Rattle.clause_core.proofs.Sets.{Contains_from_has, negation_differs}
use Rattle.sat_trail.specs.declared.entries.Entry.{Entry}
use Rattle.sat_trail.specs.Entries.{literals_of, last_level, level_of, IsForced, MayStand}
use Rattle.sat_trail.specs.States.{TrailState, IsSound, extended, with_clause}
use Rattle.sat_trail.proofs.Places.{AreApart, few_entries, has_entry, one_entry}

-- each entry may stand behind those at smaller places
abbrev pub AllStand : ℕ → List (List Lit) → List Entry → Type 0
AllStand variables clauses entries = (place : ℕ) (e : Entry) → slice_get entries place ≡ Some e →
    MayStand variables clauses (take place entries) e

pub apart_from : (variables : ℕ) (clauses : List (List Lit)) (es : List Entry) → AllStand variables clauses es → AreApart es
apart_from variables clauses es stand = λ k e at. (stand k e at).unset

pub length_entries : (variables : ℕ) (clauses : List (List Lit)) (es : List Entry) → AllStand variables clauses es → length es ≤ variables
length_entries variables clauses es stand = few_entries es variables (apart_from variables clauses es stand) (λ k e at. (stand k e at).over)

pub stand_push : (variables : ℕ) (clauses : List (List Lit)) (es : List Entry) (e : Entry) → AllStand variables clauses es →
    MayStand variables clauses es e → AllStand variables clauses (es ++ e ∷ [])
stand_push variables clauses es e stand may = λ k d at. elim (slice_get_push es e k d at) [
  | inl p ↦ subst (λ (xs : List Entry). MayStand variables clauses xs d) (sym (take-append-le k es (e ∷ []) (omega (arith, p.0))))
      (stand k d p.1)
  | inr p ↦ subst (λ (xs : List Entry). MayStand variables clauses xs d) (sym (take_at es (e ∷ []) k (sym p.0)))
      (subst (MayStand variables clauses es) p.1 may)
]

pub stand_take : (variables : ℕ) (clauses : List (List Lit)) (es : List Entry) (n : ℕ) → AllStand variables clauses es →
    AllStand variables clauses (take n es)
stand_take variables clauses es n stand = λ k e at.
    let r = slice_get-take n es k e at in
    subst (λ (xs : List Entry). MayStand variables clauses xs e) (sym (take-take k n es (omega (arith, r.0)))) (stand k e r.1)

stand_clause : (variables : ℕ) (clauses more : List (List Lit)) (es : List Entry) (e : Entry) → MayStand variables clauses es e →
    MayStand variables (clauses ++ more) es e
stand_clause variables clauses more es e may = record { over = may.over; unset = may.unset; cause = grown e.reason may.cause }
  where
    grown : (o : Option ℕ) → MatchOption o (e.level ≡ level_of es + 1)
        (λ number. (e.level ≡ level_of es) × IsForced clauses es number e.literal) →
        MatchOption o (e.level ≡ level_of es + 1) (λ number. (e.level ≡ level_of es) × IsForced (clauses ++ more) es number e.literal)
    grown None h = h
    grown (Some number) h = (
      h.0,
      record {
        clause = h.1.clause;
        named = slice_get_grown clauses more number h.1.clause h.1.named;
        others_false = h.1.others_false;
      },
    )

-- ---- levels

last_level-push : (n : ℕ) (es : List Entry) (e : Entry) → last_level n (es ++ e ∷ []) ≡ e.level
last_level-push n [] e = refl
last_level-push n (x ∷ es) e = last_level-push x.level es e

pub level_of-push : (es : List Entry) (e : Entry) → level_of (es ++ e ∷ []) ≡ e.level
level_of-push es e = last_level-push 0 es e

-- an entry's level is that of those before it, or the next one
pub level_step : (variables : ℕ) (clauses : List (List Lit)) (es : List Entry) (e : Entry) → MayStand variables clauses es e →
    (level_of es ≤ e.level) × (e.level ≤ level_of es + 1)
level_step variables clauses es e may = by_reason e.reason may.cause
  where
    by_reason : (o : Option ℕ) → MatchOption o (e.level ≡ level_of es + 1)
        (λ number. (e.level ≡ level_of es) × IsForced clauses es number e.literal) → (level_of es ≤ e.level) × (e.level ≤ level_of es + 1)
    by_reason None h = (omega (arith, h), omega (arith, h))
    by_reason (Some number) h = (omega (arith, h.0), omega (arith, h.0))

pub level_at_next : (es : List Entry) (k : ℕ) (e : Entry) → slice_get es k ≡ Some e → level_of (take (suc k) es) ≡ e.level
level_at_next es k e at = ap level_of (take_next es k e at) ∙ level_of-push (take k es) e

-- levels never fall along the places
pub levels_rise : (variables : ℕ) (clauses : List (List Lit)) (es : List Entry) → AllStand variables clauses es → (m n : ℕ) → m ≤ n →
    level_of (take m es) ≤ level_of (take n es)
levels_rise variables clauses es stand m zero h = omega (arith, ap (λ k. level_of (take k es)) (let e : m ≡ 0 = omega arith in e))
levels_rise variables clauses es stand m (suc n) h =
    elim (cases_lt m (suc n)) [
      | inl below ↦ elim (cases_lt n (length es)) [
        | inl in' ↦ (let r = slice_get_some es n in' in
            omega (
              arith,
              levels_rise variables clauses es stand m n (omega arith),
              level_at_next es n r.0 r.1,
              (level_step variables clauses (take n es) r.0 (stand n r.0 r.1)).0,
            ))
        | inr out ↦ omega (
          arith,
          levels_rise variables clauses es stand m n (omega arith),
          ap level_of (take_all n es out),
          ap level_of (take_all (suc n) es (omega arith)),
        )
      ]
      | inr above ↦ omega (arith, ap (λ k. level_of (take k es)) (let e : m ≡ suc n = omega arith in e))
    ]

pub level_within : (variables : ℕ) (clauses : List (List Lit)) (es : List Entry) → AllStand variables clauses es → (k : ℕ) (e : Entry) →
    slice_get es k ≡ Some e → e.level ≤ level_of es
level_within variables clauses es stand k e at =
    let below = slice_get_within es k e at in
    omega (
      arith,
      level_at_next es k e at,
      levels_rise variables clauses es stand (suc k) (length es) (omega arith),
      ap level_of (take_all (length es) es (omega arith)),
    )

pub level_small : (variables : ℕ) (clauses : List (List Lit)) (es : List Entry) → AllStand variables clauses es → (n : ℕ) →
    level_of (take n es) ≤ n
level_small variables clauses es stand zero = omega arith
level_small variables clauses es stand (suc n) =
    elim (cases_lt n (length es)) [
      | inl in' ↦ (let r = slice_get_some es n in' in
          omega (
            arith,
            level_small variables clauses es stand n,
            level_at_next es n r.0 r.1,
            (level_step variables clauses (take n es) r.0 (stand n r.0 r.1)).1,
          ))
      | inr out ↦ omega (
        arith,
        level_small variables clauses es stand n,
        ap level_of (take_all n es out),
        ap level_of (take_all (suc n) es (omega arith)),
      )
    ]

pub level_few : (variables : ℕ) (clauses : List (List Lit)) (es : List Entry) → AllStand variables clauses es → level_of es ≤ length es
level_few variables clauses es stand = omega (
  arith,
  level_small variables clauses es stand (length es),
  ap level_of (take_all (length es) es (omega arith)),
)

-- ---- changes

pub sound_extended : (t : TrailState) (e : Entry) → IsSound t → MayStand t.variables t.clauses t.entries e → IsSound (extended t e)
sound_extended t e sound may = record {
  few_variables = sound.few_variables;
  few_clauses = sound.few_clauses;
  over = sound.over;
  no_pairs = sound.no_pairs;
  stand = stand_push t.variables t.clauses t.entries e sound.stand may;
  level_reached = sym (level_of-push t.entries e);
}

pub sound_clause : (t : TrailState) (clause : List Lit) → IsSound t → length t.clauses + 1 < 2 ^ 32 → IsOver t.variables clause →
    has_pair clause ≡ false → IsSound (with_clause t clause)
sound_clause t clause sound few over no_pair = record {
  few_variables = sound.few_variables;
  few_clauses = omega (arith, length_push t.clauses clause);
  over = All-push (IsOver t.variables) t.clauses clause sound.over over;
  no_pairs = All-push (λ c. has_pair c ≡ false) t.clauses clause sound.no_pairs no_pair;
  stand = λ k e at. stand_clause t.variables t.clauses (clause ∷ []) (take k t.entries) e (sound.stand k e at);
  level_reached = sound.level_reached;
}

pub sound_broken : (t : TrailState) (b : Bool) → IsSound t → IsSound (record t { broken = b })
sound_broken t b sound = record {
  few_variables = sound.few_variables;
  few_clauses = sound.few_clauses;
  over = sound.over;
  no_pairs = sound.no_pairs;
  stand = sound.stand;
  level_reached = sound.level_reached;
}

-- ---- what is over, and what is true

pub over_named : (t : TrailState) → IsSound t → (number : ℕ) (clause : List Lit) → slice_get t.clauses number ≡ Some clause →
    IsOver t.variables clause
over_named t sound number clause named = All-contains (IsOver t.variables) t.clauses clause sound.over
    (contains_at t.clauses number clause named)

pub over_literal : (t : TrailState) → IsSound t → (number : ℕ) (clause : List Lit) (l : Lit) → slice_get t.clauses number ≡ Some clause →
    has clause l ≡ true → l.index < t.variables
over_literal t sound number clause l named member = All-contains (λ m. m.index < t.variables) clause l
    (over_named t sound number clause named) (Contains_from_has clause l member)

-- a literal that is true is not false
pub true_not_false : (t : TrailState) → IsSound t → (l : Lit) → has (literals_of t.entries) l ≡ true →
    has (literals_of t.entries) (negation l) ≡ false
true_not_false t sound l is_true = false_from_ne_true (has (literals_of t.entries) (negation l))
    (λ h. clash (has_entry t.entries l is_true) (has_entry t.entries (negation l) h))
  where
    clash : (k : ℕ) × (e : Entry) × (slice_get t.entries k ≡ Some e) × (e.literal ≡ l) →
        (k : ℕ) × (e : Entry) × (slice_get t.entries k ≡ Some e) × (e.literal ≡ negation l) → ⊥
    clash a b =
        let one = one_entry t.entries (apart_from t.variables t.clauses t.entries sound.stand) b.0 a.0 b.1 a.1 b.2 a.2
        (ap (λ (z : Lit). z.index) b.3 ∙ ap (λ (z : Lit). z.index) (sym a.3)) in
        negation_differs l (sym b.3 ∙ (ap (λ (x : Entry). x.literal) one.1 ∙ a.3))
