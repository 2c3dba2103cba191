-- An annotation for one automaton of a formula gives one for each: states may have other numbers and edges another order.
use Rattle.std.proofs.Common.{◌≡◌, ◌∙◌, ℕ, ◌+◌, ◌≤◌, ◌==◌, true, List, Option, None, Some, slice_get, Contains, refl, sym, ap, subst}
use Rattle.std.specs.Prelude.{cond}
use Rattle.std.proofs.lemmas.Bool.{eqb-true}
use Rattle.std.proofs.lemmas.Option.{none-some, same_Some}
use Rattle.base_library.proofs.Each.{each_at, each_contained}
use Rattle.ltl_formula.specs.Cubes.{cube_matches}
use Rattle.ltl_formula.specs.LtlTree.{LtlTree}
use Rattle.cobuchi_automata.specs.Automata.{StateTree, EdgeTree, untils_of, start_state, state_after, IsReached, IsOfChoice, IsAutomaton}
use Rattle.cobuchi_automata.specs.Refusals.{Transition, transition_of, IsTransition}
use Rattle.cobuchi_automata.proofs.AutomatonLemmas.{has_state, has_edge}
use Rattle.machines.specs.Moves.{MoveTree}
use Rattle.annotation_check.specs.Annotations.{edges_from, IsAtLeast, after_edge, IsAnnotation}
use Rattle.annotation_check.proofs.LeavingEdges.{leaves, passes_filtered}

module _ (f : LtlTree) (states : List StateTree) (edges : List EdgeTree) (automaton : IsAutomaton f states edges)
    (more_states : List StateTree) (more_edges : List EdgeTree) (other : IsAutomaton f more_states more_edges)
    (moves : ℕ → List MoveTree) (bound : ℕ) (number : ℕ → ℕ → Option ℕ)
    (annotation : IsAnnotation (edges_from edges) moves bound number) where
  -- the number that a state of the other automaton has in this one
  reached : (q : ℕ) (s : StateTree) → slice_get more_states q ≡ Some s → IsReached f s
  reached q s at = each_at (IsReached f) more_states q s other.reached at

  abbrev number_in : (m q : ℕ) (o : Option StateTree) → slice_get more_states q ≡ o → Option ℕ
  number_in m q None at = None
  number_in m q (Some s) at = number m (has_state f states edges automaton s (reached q s at)).0

  abbrev number_there : ℕ → ℕ → Option ℕ
  number_there m q = number_in m q (slice_get more_states q) refl

  number_is : (m q p : ℕ) (s : StateTree) → slice_get more_states q ≡ Some s → slice_get states p ≡ Some s → number_there m q ≡ number m p
  number_is m q p s at here = by (slice_get more_states q) refl at
    where
      by : (o : Option StateTree) (e : slice_get more_states q ≡ o) → o ≡ Some s → number_in m q o e ≡ number m p
      by None e there = absurd (none-some s there)
      by (Some t) e there =
          let same : t ≡ s = same_Some t s there in
          let place = has_state f states edges automaton t (reached q t e) in
          ap (number m) (automaton.once place.0 p s (place.1 ∙ ap Some same) here)

  -- what an edge of the other automaton comes from, and the edge of this one for the same choice
  of_choice : (q : ℕ) (e : EdgeTree) → Contains (edges_from more_edges q) e → IsOfChoice (untils_of f) more_states e
  of_choice q e stands =
      each_contained (IsOfChoice (untils_of f) more_states) more_edges e other.of_choices
      (passes_filtered (λ d. d.from == q) more_edges e stands).0

  starts : (q : ℕ) (e : EdgeTree) → Contains (edges_from more_edges q) e → e.from ≡ q
  starts q e stands = eqb-true e.from q (passes_filtered (λ d. d.from == q) more_edges e stands).1

  goes_on : (s q n : ℕ) → number_there s q ≡ Some n → (m : MoveTree) → Contains (moves s) m → (e : EdgeTree) →
      Contains (edges_from more_edges q) e → cube_matches e.care e.want m.letter ≡ true →
      IsAtLeast (after_edge n e) (number_there m.next e.to)
  goes_on s q n at m moved e stands matches =
      let of = of_choice q e stands in
      let from = starts q e stands in
      let t : Transition = transition_of (untils_of f) of.state of.choice in
      let known : IsTransition f t = record {
        reached = reached e.from of.state of.here;
        choices_here = of.choices_here;
        are_choices = of.are_choices;
        choice = of.choice;
        chosen = of.chosen;
        is = refl;
      } in
      let found = has_edge f states edges automaton t known in
      let d : EdgeTree = found.0 in
      let joins = found.2 in
      let here : number s d.from ≡ Some n =
      sym (number_is s q d.from of.state (ap (slice_get more_states) (sym from) ∙ of.here) joins.from) ∙ at in
      let care : d.care ≡ e.care = joins.care ∙ sym (ap (λ x. x.care) of.is) in
      let want : d.want ≡ e.want = joins.want ∙ sym (ap (λ x. x.want) of.is) in
      let rejecting : d.rejecting ≡ e.rejecting = joins.rejecting ∙ sym (ap (λ x. x.rejecting) of.is) in
      let asked = annotation.numbering.goes_on s d.from n here m moved d (leaves edges d.from d found.1 refl)
      ((λ i. cube_matches (care i) (want i) m.letter) ∙ matches) in
      let after : after_edge n d ≡ after_edge n e = (λ i. n + cond (rejecting i) 1 0) in
      let there : number m.next d.to ≡ number_there m.next e.to =
      sym (number_is m.next e.to d.to (state_after (untils_of f) of.state of.choice) of.there joins.to) in
      subst (λ k. IsAtLeast k (number_there m.next e.to)) after (subst (IsAtLeast (after_edge n d)) there asked)

  pub annotated_there : (there : ℕ → ℕ → Option ℕ) × IsAnnotation (edges_from more_edges) moves bound there
  annotated_there = (
    number_there,
    record {
      numbering = record {
        start = subst (IsAtLeast 0) (sym (number_is 0 0 0 (start_state f) other.start automaton.start)) annotation.numbering.start;
        goes_on = goes_on;
      };
      within = λ s q n at. within s q n (slice_get more_states q) refl at;
    },
  )
    where
      within : (s q n : ℕ) (o : Option StateTree) (e : slice_get more_states q ≡ o) → number_in s q o e ≡ Some n → n ≤ bound
      within s q n None e at = absurd (none-some n at)
      within s q n (Some t) e at = annotation.within s _ n at
