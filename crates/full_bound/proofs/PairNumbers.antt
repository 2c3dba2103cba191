-- Numbers of nodes as an annotation of pairs.
use Rattle.std.proofs.Common.{◌≡◌, ◌∙◌, ℕ, ◌+◌, ◌*◌, ◌/◌, ◌%◌, ◌<◌, ◌≤◌, Bool, true, false, cond, nat_lt, List}
use Rattle.std.proofs.Common.{Option, None, Some, Contains, refl, sym, ap, subst, arith}
use Rattle.std.proofs.lemmas.Option.{none-some}
use Rattle.std.proofs.lemmas.Bool.{lt-ltb, ltb-true}
use Rattle.std.proofs.lemmas.Nat.{div-mul-add, mod-mul-add}
use Rattle.cobuchi_automata.specs.Automata.{EdgeTree}
use Rattle.full_bound.specs.internal.Graph.{IsNodeNumbering}
use Rattle.machines.specs.Moves.{MoveTree}
use Rattle.annotation_check.specs.Annotations.{edges_from, IsAtLeast, after_edge, IsAnnotation}
use Rattle.full_bound.specs.internal.Pairs.{pair_steps, pair_after, is_rejecting}
use Rattle.full_bound.proofs.PairSteps.{has_step}

module _ (states machine_states : ℕ) (some_state : 0 < states) (moves : ℕ → List MoveTree) (edges : List EdgeTree)
    (edges_stay : (q : ℕ) (e : EdgeTree) → Contains (edges_from edges q) e → e.to < states) (number : ℕ → Option ℕ)
    (numbering : IsNodeNumbering (pair_steps states moves edges) (pair_after states) is_rejecting (machine_states * states)
    (machine_states * states) number) where
  abbrev pub pair_number : ℕ → ℕ → Option ℕ
  pair_number s q = cond (nat_lt q states) (number (s * states + q)) None

  at_pair : (s q : ℕ) → q < states → pair_number s q ≡ number (s * states + q)
  at_pair s q below = ap (λ b. cond b (number (s * states + q)) None) (lt-ltb q states below)

  of_pair : (s q n : ℕ) → pair_number s q ≡ Some n → (q < states) × (number (s * states + q) ≡ Some n)
  of_pair s q n = by (nat_lt q states) refl
    where
      by : (b : Bool) → nat_lt q states ≡ b → cond b (number (s * states + q)) None ≡ Some n → (q < states)
          × (number (s * states + q) ≡ Some n)
      by true is at = (ltb-true q states is, at)
      by false is at = absurd (none-some n at)

  at_least : (m n : ℕ) (o : Option ℕ) → o ≡ Some m → n ≤ m → IsAtLeast n o
  at_least m n o at le = subst (IsAtLeast n) (sym at) le

  pub annotation : IsAnnotation (edges_from edges) moves (machine_states * states) pair_number
  annotation = record {
    numbering = record {
      start =
          let first = numbering.start in
          let e : 0 * states + 0 ≡ 0 = omega arith in
          at_least first.0 0 (pair_number 0 0) (at_pair 0 0 some_state ∙ ap number e ∙ first.1) (omega arith);
      goes_on = λ s q n at m moved e leaves matches.
          let here = of_pair s q n at in
          let stands : Contains (pair_steps states moves edges (s * states + q)) (record { move = m; edge = e }) =
          subst (λ k. Contains (pair_steps states moves edges k) (record { move = m; edge = e })) refl
          (has_step (moves ((s * states + q) / states)) (edges_from edges ((s * states + q) % states)) m e
          (subst (λ k. Contains (moves k) m) (sym (div-mul-add s states q here.0)) moved)
          (subst (λ k. Contains (edges_from edges k) e) (sym (mod-mul-add s states q here.0)) leaves) matches) in
          let next = numbering.rises (s * states + q) n (record { move = m; edge = e }) here.1 stands in
          at_least next.0 (after_edge n e) (pair_number m.next e.to) (at_pair m.next e.to (edges_stay q e leaves) ∙ next.1) next.2;
    };
    within = λ s q n at. let here = of_pair s q n at in (numbering.within (s * states + q) n here.1).0;
  }
