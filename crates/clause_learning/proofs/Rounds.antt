-- What comes first, and how the nodes of a tournament are played again.
use Rattle.std.proofs.Common.{◌≡◌, ◌∙◌, ℕ, zero, suc, ◌+◌, ◌-◌, ◌*◌, ◌/◌, ◌%◌, ◌<◌, ◌≤◌, Bool, true, false, cond, List}
use Rattle.std.proofs.Common.{refl, sym, ap, ap₂, subst, arith, inl, inr, nat_lt}
use Rattle.std.proofs.lemmas.Bool.{false≢true, cases_eq, cases_lt, eq-eqb, ne_eqb, lt-ltb, le-ltb, ltb-true, ltb-false, cases_order}
use Rattle.clause_learning.specs.declared.tournament.Rank.{Rank}
use Rattle.clause_learning.specs.declared.tournament.Tournament.{Tournament}
use Rattle.clause_learning.specs.Tournaments.{IsTournament, IsWon, is_before, winner, rank_at}

-- ---- the order

-- one does not come behind another one
pub data Leads (one other : Rank) : Type 0 where
  more : other.activity < one.activity → Leads one other
  same : one.activity ≡ other.activity → one.variable ≤ other.variable → Leads one other

pub leads_from : (one other : Rank) → is_before other one ≡ false → Leads one other
leads_from one other h = elim (cases_order one.activity other.activity) [
  | inl is ↦ same is (ltb-false other.variable one.variable
      (sym (ap (λ t. cond t (nat_lt other.variable one.variable) (nat_lt one.activity other.activity)) (eq-eqb other.activity one.activity (sym is))) ∙ h))
  | inr (inl less) ↦ absurd (false≢true (sym h
      ∙ (ap (λ t. cond t (nat_lt other.variable one.variable) (nat_lt one.activity other.activity))
      (ne_eqb other.activity one.activity (λ is. omega (arith, is, less))) ∙ lt-ltb one.activity other.activity less)))
  | inr (inr greater) ↦ more greater
]

pub leads_to : (one other : Rank) → Leads one other → is_before other one ≡ false
leads_to one other (more greater) = ap (λ t. cond t (nat_lt other.variable one.variable) (nat_lt one.activity other.activity))
    (ne_eqb other.activity one.activity (λ is. omega (arith, is, greater))) ∙ le-ltb one.activity other.activity (omega (arith, greater))
leads_to one other (same is under) = ap (λ t. cond t (nat_lt other.variable one.variable) (nat_lt one.activity other.activity))
    (eq-eqb other.activity one.activity (sym is)) ∙ le-ltb other.variable one.variable under

pub leads_trans : (a b c : Rank) → Leads a b → Leads b c → Leads a c
leads_trans a b c (more p) (more q) = more (omega (arith, p, q))
leads_trans a b c (more p) (same is under) = more (omega (arith, p, is))
leads_trans a b c (same is under) (more q) = more (omega (arith, q, is))
leads_trans a b c (same is under) (same is_too under_too) = same (is ∙ is_too) (omega (arith, under, under_too))

-- of two others that one does not come behind the other it comes before it
pub before_from : (one other : Rank) → Leads one other → (one.variable ≡ other.variable → ⊥) → is_before one other ≡ true
before_from one other (more greater) apart = ap (λ t. cond t (nat_lt one.variable other.variable) (nat_lt other.activity one.activity))
    (ne_eqb one.activity other.activity (λ is. omega (arith, is, greater))) ∙ lt-ltb other.activity one.activity greater
before_from one other (same is under) apart = ap (λ t. cond t (nat_lt one.variable other.variable) (nat_lt other.activity one.activity))
    (eq-eqb one.activity other.activity is) ∙ lt-ltb one.variable other.variable (omega (arith, under, apart))

itself : (one : Rank) → Leads one one
itself one = same refl (omega arith)

other_way : (one other : Rank) → is_before one other ≡ true → Leads one other
other_way one other h = elim (cases_order one.activity other.activity) [
  | inl is ↦ same is (let less = ltb-true one.variable other.variable
      (sym (ap (λ t. cond t (nat_lt one.variable other.variable) (nat_lt other.activity one.activity)) (eq-eqb one.activity other.activity is)) ∙ h) in
      omega (arith, less))
  | inr (inl less) ↦ more (ltb-true other.activity one.activity
      (sym (ap (λ t. cond t (nat_lt one.variable other.variable) (nat_lt other.activity one.activity))
      (ne_eqb one.activity other.activity (λ is. omega (arith, is, less)))) ∙ h))
  | inr (inr greater) ↦ more greater
]

winner_leads : (left right : Rank) → Leads (winner left right) left × Leads (winner left right) right
winner_leads left right = by_test (is_before right left) refl
  where
    by_test : (b : Bool) → is_before right left ≡ b → Leads (cond b right left) left × Leads (cond b right left) right
    by_test true h = (other_way right left h, itself right)
    by_test false h = (itself left, leads_from left right h)

leads_at : {a b c d : Rank} → a ≡ b → c ≡ d → Leads b c → Leads a d
leads_at {a} {b} {c} {d} e f leads = subst (λ r. Leads r d) (sym e) (subst (Leads b) f leads)

-- ---- the first of all

module _ (t : Tournament) (is : IsTournament t) where
  abbrev at : ℕ → Rank
  at node = rank_at t.nodes.items node

  above : (node : ℕ) → 1 < node → node < 2 * t.leaves → Leads (at (node / 2)) (at node)
  above node low high =
      let won : IsWon t.nodes.items (node / 2) = is.won (node / 2) (omega (arith, low)) (omega (arith, high)) in
      elim (cases_lt (node % 2) 1) [
        | inl even ↦ (let here : 2 * (node / 2) ≡ node = omega (arith, even) in leads_at won (ap at here) (winner_leads (at (2 * (node / 2))) (at (2 * (node / 2) + 1))).0)
        | inr odd ↦ (let here : 2 * (node / 2) + 1 ≡ node = omega (arith, odd) in leads_at won (ap at here) (winner_leads (at (2 * (node / 2))) (at (2 * (node / 2) + 1))).1)
      ]

  pub first_leads : (fuel node : ℕ) → node ≤ fuel → 0 < node → node < 2 * t.leaves → Leads (at 1) (at node)
  first_leads zero node under low high = absurd (omega (arith, under, low))
  first_leads (suc fuel) node under low high = elim (cases_eq node 1) [
    | inl is ↦ (let e : at 1 ≡ at node = ap at (sym is) in same (ap (λ (r : Rank). r.activity) e) (let v = ap (λ (r : Rank). r.variable) e in omega (arith, v)))
    | inr apart ↦ leads_trans (at 1) (at (node / 2)) (at node)
        (first_leads fuel (node / 2) (omega (arith, under, low, apart)) (omega (arith, low, apart)) (omega (arith, high)))
        (above node (omega (arith, low, apart)) high)
  ]

  -- each node has what a leaf has
  leaf_of : (fuel node : ℕ) → 2 * t.leaves ≤ node + fuel → 0 < node → node < 2 * t.leaves → (leaf : ℕ) × ((leaf < t.leaves) × (at node ≡ at (t.leaves + leaf)))
  leaf_of zero node under low high = absurd (omega (arith, under, high))
  leaf_of (suc fuel) node under low high = elim (cases_lt node t.leaves) [
    | inr leaf ↦ (node - t.leaves, (omega (arith, high, leaf), (let e : node ≡ t.leaves + (node - t.leaves) = omega (arith, leaf) in ap at e)))
    | inl inner ↦ by_test (is_before (at (2 * node + 1)) (at (2 * node))) refl inner
        (leaf_of fuel (2 * node) (omega (arith, under, low)) (omega (arith, low)) (omega (arith, inner)))
        (leaf_of fuel (2 * node + 1) (omega (arith, under, low)) (omega arith) (omega (arith, inner)))
  ]
    where
      by_test : (b : Bool) → is_before (at (2 * node + 1)) (at (2 * node)) ≡ b → node < t.leaves →
          (leaf : ℕ) × ((leaf < t.leaves) × (at (2 * node) ≡ at (t.leaves + leaf))) →
          (leaf : ℕ) × ((leaf < t.leaves) × (at (2 * node + 1) ≡ at (t.leaves + leaf))) →
          (leaf : ℕ) × ((leaf < t.leaves) × (at node ≡ at (t.leaves + leaf)))
      by_test true h inner left right = (
        right.0,
        (
          right.1.0,
          is.won node low inner
              ∙ (ap (λ b. cond b (at (2 * node + 1)) (at (2 * node))) h ∙ right.1.1),
        ),
      )
      by_test false h inner left right = (
        left.0,
        (
          left.1.0,
          is.won node low inner
              ∙ (ap (λ b. cond b (at (2 * node + 1)) (at (2 * node))) h ∙ left.1.1),
        ),
      )

  pub first_leaf : (leaf : ℕ) × ((leaf < t.leaves) × (at 1 ≡ at (t.leaves + leaf)))
  first_leaf = leaf_of (2 * t.leaves) 1 (omega arith) (omega arith) (let s = is.some in omega (arith, s))

-- ---- nodes are played again

-- all nodes but one have the winner of the two below them
abbrev pub AreWonBut : ℕ → ℕ → List Rank → Type 0
AreWonBut hole leaves nodes = (node : ℕ) → 0 < node → node < leaves → (node ≡ hole → ⊥) → IsWon nodes node

module _ (before after : List Rank) (played : ℕ) (low : 0 < played)
    (others : (other : ℕ) → (other ≡ played → ⊥) → rank_at after other ≡ rank_at before other)
    (here : rank_at after played ≡ winner (rank_at before (2 * played)) (rank_at before (2 * played + 1))) where
  pub replayed : (node : ℕ) → (2 * node ≡ played → ⊥) → (2 * node + 1 ≡ played → ⊥) → ((node ≡ played → ⊥) → IsWon before node) → IsWon after node
  replayed node left right won = elim (cases_eq node played) [
    | inl is ↦ (let e = ap₂ winner (others (2 * played) (λ s. omega (arith, s, low))) (others (2 * played + 1) (λ s. omega (arith, s, low))) in
        (λ i. rank_at after (is i)) ∙ (here ∙ (sym e ∙ (λ i. winner (rank_at after (2 * sym is i)) (rank_at after (2 * sym is i + 1))))))
    | inr other ↦ others node other ∙ (won other ∙ sym (ap₂ winner (others (2 * node) left) (others (2 * node + 1) right)))
  ]

module _ (before after : List Rank) (played leaves : ℕ) (low : 0 < played) (won : AreWonBut played leaves before)
    (others : (other : ℕ) → (other ≡ played → ⊥) → rank_at after other ≡ rank_at before other)
    (here : rank_at after played ≡ winner (rank_at before (2 * played)) (rank_at before (2 * played + 1))) where
  pub played_on : AreWonBut (played / 2) leaves after
  played_on node some inner apart = replayed before after played low others here node (λ s. apart (omega (arith, s))) (λ s. apart (omega (arith, s)))
      (λ other. won node some inner other)

  -- where the node has what it had, all are won
  pub played_out : rank_at after played ≡ rank_at before played → (node : ℕ) → 0 < node → node < leaves → IsWon after node
  played_out kept node some inner = elim (cases_eq node played) [
    | inl is ↦ (λ i. rank_at after (is i)) ∙ (here ∙ (sym (ap₂ winner (all (2 * played)) (all (2 * played + 1)))
        ∙ (λ i. winner (rank_at after (2 * sym is i)) (rank_at after (2 * sym is i + 1)))))
    | inr other ↦ all node ∙ (won node some inner other ∙ sym (ap₂ winner (all (2 * node)) (all (2 * node + 1))))
  ]
    where
      all : (k : ℕ) → rank_at after k ≡ rank_at before k
      all k = elim (cases_eq k played) [
        | inl is ↦ ap (rank_at after) is ∙ (kept ∙ ap (rank_at before) (sym is))
        | inr apart ↦ others k apart
      ]
