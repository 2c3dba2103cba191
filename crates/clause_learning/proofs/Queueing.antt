-- Which variable is next, and how one of the queue is changed.
use Rattle.std.proofs.Common.{List, length, set, get_or, ◌≡◌, ◌∙◌, ℕ, ◌+◌, ◌<◌, ◌≤◌, ◌==◌, Bool, true, false, not, ◌||◌, cond, sym, ap, ap₂, arith, inl, inr, refl}
use Rattle.std.specs.Prelude.{◌⊎◌}
use Rattle.std.proofs.lemmas.Bool.{true≢false, cases_eq, cases_lt, eq-eqb, ne_eqb, eqb-false, or_cases, or_left, or_right, not-true, not_from_false, false_from_ne_true, lt-ltb, le-ltb}
use Rattle.std.proofs.lemmas.List.{get_or_past, get_or-set_same, get_or-set_other}
use Rattle.clause_learning.specs.declared.queue.VariableQueue.{VariableQueue}
use Rattle.clause_learning.specs.declared.numbers.NumberSet.{NumberSet}
use Rattle.clause_learning.specs.declared.tournament.Rank.{Rank}
use Rattle.clause_learning.specs.declared.tournament.Tournament.{Tournament}
use Rattle.clause_learning.specs.Tournaments.{IsTournament, HasWeight, is_before, rank_at, weight}
use Rattle.clause_learning.specs.NumberSets.{IsNumberSet, HasMember, IsLeastBit, contains}
use Rattle.clause_learning.specs.Queues.{IsQueue, IsNext, IsActive, AreBounded, variable_count, activity_of, rank_of, is_queued, beside, scaled, limit}
use Rattle.clause_learning.proofs.Rounds.{Leads, more, same, leads_from, before_from}

module _ (q : VariableQueue) (is : IsQueue q) where
  -- what is active has its activity
  held : (v : ℕ) → 0 < weight q.active v → (v < variable_count q) × (weight q.active v ≡ activity_of q v)
  held v some = elim (is.active v) [
    | inl none ↦ absurd (omega (arith, some, none))
    | inr weighs ↦ (
      elim (cases_lt v (variable_count q)) [
        | inl within ↦ within
        | inr over ↦ absurd (omega (arith, some, weighs, get_or_past q.activities.items v 0 over))
      ],
      weighs,
    )
  ]

  queued_where : (v : ℕ) → is_queued q v ≡ true → (0 < weight q.active v) ⊎ (contains q.inactive v ≡ true)
  queued_where v h = elim (or_cases (not (weight q.active v == 0)) (contains q.inactive v) h) [
    | inl some ↦ inl (let n = eqb-false (weight q.active v) 0 (not-true (weight q.active v == 0) some) in omega (arith, n))
    | inr there ↦ inr there
  ]

  pub queued_below : (v : ℕ) → is_queued q v ≡ true → v < variable_count q
  queued_below v h = elim (queued_where v h) [
    | inl some ↦ (held v some).0
    | inr there ↦ (is.inactive v there).0
  ]

  module _ (r : Rank) (weighs : r.activity ≡ weight q.active r.variable)
      (first : (leaf : ℕ) → leaf < q.active.leaves → is_before (rank_at q.active.nodes.items (q.active.leaves + leaf)) r ≡ false) where
    -- it leads what is active
    leads_active : (v : ℕ) → 0 < weight q.active v → (weight q.active v < r.activity) ⊎ ((r.activity ≡ weight q.active v) × (r.variable ≤ v))
    leads_active v some =
        let h = held v some in
        by_lead (leads_from r (rank_at q.active.nodes.items (q.active.leaves + v)) (first v (omega (arith, h.0, is.leaf_each))))
        (is.tournament.named v (omega (arith, h.0, is.leaf_each)))
      where
        by_lead : {l : Rank} → Leads r l → l.variable ≡ v → (l.activity < r.activity) ⊎ ((r.activity ≡ l.activity) × (r.variable ≤ v))
        by_lead (more greater) named = inl greater
        by_lead (same alike under) named = inr (alike, omega (arith, under, named))

    pub next_active : 0 < r.activity → IsNext q r.variable
    next_active some = record {
      queued = or_left (not (weight q.active r.variable == 0)) (contains q.inactive r.variable)
          (not_from_false (weight q.active r.variable == 0) (ne_eqb (weight q.active r.variable) 0 (λ none. omega (arith, none, weighs, some))));
      first = λ o queued apart. before_from (rank_of q r.variable) (rank_of q o) (elim (queued_where o queued) [
        | inl active ↦ (let h = held o active in elim (leads_active o active) [
          | inl greater ↦ more (omega (arith, greater, here.1, h.1, weighs))
          | inr under ↦ same (omega (arith, under.0, here.1, h.1, weighs)) under.1
        ])
        | inr there ↦ more (let none = is.inactive o there in omega (arith, none.1, some, here.1, weighs))
      ]) (λ e. apart (sym e));
    }
      where
        here : (r.variable < variable_count q) × (weight q.active r.variable ≡ activity_of q r.variable)
        here = held r.variable (omega (arith, some, weighs))

    none_active : r.activity ≡ 0 → (v : ℕ) → 0 < weight q.active v → ⊥
    none_active none v some = elim (leads_active v some) [
      | inl greater ↦ omega (arith, greater, none)
      | inr under ↦ omega (arith, under.0, none, some)
    ]

    pub next_inactive : r.activity ≡ 0 → (v : ℕ) → IsLeastBit q.inactive.members.items v → IsNext q v
    next_inactive none v least = record {
      queued = or_right (not (weight q.active v == 0)) (contains q.inactive v) least.here;
      first = λ o queued apart. elim (queued_where o queued) [
        | inl active ↦ absurd (none_active none o active)
        | inr there ↦ elim (cases_lt o v) [
          | inl before ↦ absurd (true≢false (sym there ∙ least.none_before o before))
          | inr behind ↦ before_from (rank_of q v) (rank_of q o)
              (same ((is.inactive v least.here).1 ∙ sym (is.inactive o there).1) behind) (λ e. apart (sym e))
        ]
      ];
    }

    pub none_queued : r.activity ≡ 0 → ((v : ℕ) → contains q.inactive v ≡ false) → (v : ℕ) → is_queued q v ≡ false
    none_queued none empty v = false_from_ne_true (is_queued q v) (λ h. elim (queued_where v h) [
      | inl active ↦ none_active none v active
      | inr there ↦ true≢false (sym there ∙ empty v)
    ])

-- ---- one variable is changed

-- a variable weighs so much, is in the set or not and is so active; the others as before
pub record IsChanged (old : VariableQueue) (v weighs : ℕ) (there : Bool) (activity : ℕ) (new : VariableQueue) : Type 0 where
  pub within : v < variable_count old
  pub fitting : (weighs ≡ 0) ⊎ (weighs ≡ activity)
  pub none : there ≡ true → activity ≡ 0
  pub count : variable_count new ≡ variable_count old
  pub weighed : HasWeight old.active v weighs new.active
  pub open weighed use *
  pub written : HasMember old.inactive v there new.inactive
  pub open written use *
  pub activities : (o : ℕ) → activity_of new o ≡ cond (o == v) activity (activity_of old o)

pub at_one : {X : Type 0} (o v : ℕ) (x y : X) → o ≡ v → cond (o == v) x y ≡ x
at_one o v x y is = ap (λ t. cond t x y) (eq-eqb o v is)

pub at_other : {X : Type 0} (o v : ℕ) (x y : X) → (o ≡ v → ⊥) → cond (o == v) x y ≡ y
at_other o v x y apart = ap (λ t. cond t x y) (ne_eqb o v apart)

-- what is not changed
pub unchanged : {X : Type 0} (f : ℕ → X) (v o : ℕ) → f o ≡ cond (o == v) (f v) (f o)
unchanged f v o = elim (cases_eq o v) [
  | inl is ↦ ap f is ∙ sym (at_one o v (f v) (f o) is)
  | inr apart ↦ sym (at_other o v (f v) (f o) apart)
]

-- nor is a variable's weight, or whether it is in the set
pub weighs_still : (t : Tournament) (v : ℕ) → IsTournament t → HasWeight t v (weight t v) t
weighs_still t v is = record { tournament = is; leaves = refl; weights = unchanged (weight t) v }

pub member_still : (numbers : NumberSet) (v : ℕ) → IsNumberSet numbers → HasMember numbers v (contains numbers v) numbers
member_still numbers v is = record { set = is; same_room = refl; members = unchanged (contains numbers) v }

module _ (old new : VariableQueue) (v weighs : ℕ) (there : Bool) (activity : ℕ) (is : IsQueue old)
    (c : IsChanged old v weighs there activity new) where
  pub queue_changed : IsQueue new
  queue_changed = record {
    few = omega (arith, is.few, c.count);
    tournament = c.tournament;
    leaf_each = omega (arith, is.leaf_each, c.count, c.leaves);
    set = c.set;
    bit_each = omega (arith, is.bit_each, c.count, c.same_room);
    active = λ o. elim (cases_eq o v) [
      | inl here ↦ (let w = c.weights o ∙ at_one o v weighs (weight old.active o) here in
          let a = c.activities o ∙ at_one o v activity (activity_of old o) here in
          elim c.fitting [ inl none ↦ inl (w ∙ none) | inr e ↦ inr (w ∙ (e ∙ sym a)) ])
      | inr apart ↦ (let w = c.weights o ∙ at_other o v weighs (weight old.active o) apart in
          let a = c.activities o ∙ at_other o v activity (activity_of old o) apart in
          elim (is.active o) [ inl none ↦ inl (w ∙ none) | inr e ↦ inr (w ∙ (e ∙ sym a)) ])
    ];
    inactive = λ o h. elim (cases_eq o v) [
      | inl here ↦ (
        omega (arith, here, c.within, c.count),
        c.activities o ∙ (at_one o v activity (activity_of old o) here
            ∙ c.none (sym (c.members o ∙ at_one o v there (contains old.inactive o) here) ∙ h)),
      )
      | inr apart ↦ (let r = is.inactive o (sym (c.members o ∙ at_other o v there (contains old.inactive o) apart) ∙ h) in
          (omega (arith, r.0, c.count), c.activities o ∙ (at_other o v activity (activity_of old o) apart ∙ r.1)))
    ];
  }

  pub queued_changed : (o : ℕ) → is_queued new o ≡ cond (o == v) (not (weighs == 0) || there) (is_queued old o)
  queued_changed o = elim (cases_eq o v) [
    | inl here ↦ ap₂ (λ w m. not (w == 0) || m) (c.weights o ∙ at_one o v weighs (weight old.active o) here)
        (c.members o ∙ at_one o v there (contains old.inactive o) here) ∙ sym (at_one o v (not (weighs == 0) || there) (is_queued old o) here)
    | inr apart ↦ ap₂ (λ w m. not (w == 0) || m) (c.weights o ∙ at_other o v weighs (weight old.active o) apart)
        (c.members o ∙ at_other o v there (contains old.inactive o) apart) ∙ sym (at_other o v (not (weighs == 0) || there) (is_queued old o) apart)
  ]

-- ---- activities

pub written_at : (xs : List ℕ) (v a o : ℕ) → v < length xs → get_or (set xs v a) o 0 ≡ cond (o == v) a (get_or xs o 0)
written_at xs v a o within = elim (cases_eq o v) [
  | inl is ↦ ap (λ (k : ℕ). get_or (set xs v a) k 0) is ∙ (get_or-set_same xs v a 0 within ∙ sym (at_one o v a (get_or xs o 0) is))
  | inr apart ↦ get_or-set_other xs v o a 0 apart ∙ sym (at_other o v a (get_or xs o 0) apart)
]

-- what weighs so much or else is in the set may be decided
pub counted : (activity : ℕ) → (not (activity == 0) || (activity == 0)) ≡ true
counted activity = by_cases (activity == 0)
  where
    by_cases : (b : Bool) → (not b || b) ≡ true
    by_cases true = refl
    by_cases false = refl

-- all activities, and what a bump adds, beside one that is new
pub made_active : (old mid new : VariableQueue) (v a : ℕ) → variable_count new ≡ variable_count old →
    ((o : ℕ) → is_queued new o ≡ is_queued old o) → ((o : ℕ) → activity_of mid o ≡ cond (o == v) a (activity_of old o)) →
    ((o : ℕ) → activity_of new o ≡ beside a (activity_of mid o)) → new.increment ≡ beside a old.increment → IsActive old v a new
made_active old mid new v a count queued activities after increment = record {
  same_count = count;
  same_variables = queued;
  here = after v ∙ ap (beside a) (activities v ∙ at_one v v a (activity_of old v) refl);
  elsewhere = λ o apart. after o ∙ ap (beside a) (activities o ∙ at_other o v a (activity_of old o) apart);
  increment = increment;
}

pub beside_over : (a n : ℕ) → limit < a → beside a n ≡ scaled n
beside_over a n over = ap (λ t. cond t (scaled n) n) (lt-ltb limit a over)

pub beside_under : (a n : ℕ) → a ≤ limit → beside a n ≡ n
beside_under a n under = ap (λ t. cond t (scaled n) n) (le-ltb limit a under)

-- activities stay bounded where one is new
pub bounded_with : (old new : VariableQueue) (v a bound : ℕ) → AreBounded bound old → a ≤ bound →
    ((o : ℕ) → activity_of new o ≡ cond (o == v) a (activity_of old o)) → new.increment ≡ old.increment → AreBounded bound new
bounded_with old new v a bound is under activities increment = record {
  activities = λ o. elim (cases_eq o v) [
    | inl here ↦ omega (arith, activities o, at_one o v a (activity_of old o) here, under)
    | inr apart ↦ omega (arith, activities o, at_other o v a (activity_of old o) apart, is.activities o)
  ];
  increment = omega (arith, increment, is.increment);
}

-- what may not be decided is in neither
pub none_left : (q : VariableQueue) (v : ℕ) → is_queued q v ≡ false → (weight q.active v ≡ 0) × (contains q.inactive v ≡ false)
none_left q v h = (
  elim (cases_eq (weight q.active v) 0) [
    | inl none ↦ none
    | inr some ↦ absurd (true≢false (sym (or_left (not (weight q.active v == 0)) (contains q.inactive v)
        (not_from_false (weight q.active v == 0) (ne_eqb (weight q.active v) 0 some))) ∙ h))
  ],
  false_from_ne_true (contains q.inactive v) (λ there. true≢false (sym (or_right (not (weight q.active v == 0)) (contains q.inactive v) there) ∙ h)),
)
