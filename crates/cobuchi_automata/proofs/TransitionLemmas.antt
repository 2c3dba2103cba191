-- Numbered edges as edges between states themselves.
use Rattle.std.proofs.Common.{◌≡◌, ◌∙◌, ℕ, suc, List, length, map, Some, slice_get, sym, ap, subst}
use Rattle.std.specs.Prelude.{unwrap_or}
use Rattle.std.specs.List.{AllByRecursion}
use Rattle.std.proofs.lemmas.List.{length-map}
use Rattle.base_library.proofs.Each.{each_at, each_map, each_weaker}
use Rattle.base_library.proofs.Places.{slice_get_mapped}
use Rattle.ltl_formula.specs.LtlTree.{LtlTree}
use Rattle.obligations.specs.Expansion.{choices}
use Rattle.cobuchi_automata.specs.Automata.{StateTree, EdgeTree, untils_of, start_state, state_after, edge_of, IsReached, IsOfChoice}
use Rattle.cobuchi_automata.specs.Refusals.{most_automaton_edges, Transition, IsTransition, HasTooManyEdges}
use Rattle.base_library.specs.Once.{StandOnce}

module _ (f : LtlTree) (states : List StateTree) where
  -- the state with a number
  abbrev pub state_at : ℕ → StateTree
  state_at n = unwrap_or (slice_get states n) (start_state f)

  abbrev pub transition_at : EdgeTree → Transition
  transition_at e = record { from = state_at e.from; care = e.care; want = e.want; to = state_at e.to; rejecting = e.rejecting }

module _ (f : LtlTree) (states : List StateTree) (edges : List EdgeTree) (reached : AllByRecursion (IsReached f) states)
    (once : StandOnce states) (of_choices : AllByRecursion (IsOfChoice (untils_of f) states) edges) (edges_once : StandOnce edges) where
  abbrev at_edge : EdgeTree → Transition
  at_edge = transition_at f states

  pub is_transition : (e : EdgeTree) → IsOfChoice (untils_of f) states e → IsTransition f (at_edge e)
  is_transition e of_choice =
      let from : state_at f states e.from ≡ of_choice.state = ap (λ o. unwrap_or o (start_state f)) of_choice.here in
      let to : state_at f states e.to ≡ state_after (untils_of f) of_choice.state of_choice.choice =
      ap (λ o. unwrap_or o (start_state f)) of_choice.there in
      record {
        reached = subst (IsReached f) (sym from) (each_at (IsReached f) states e.from of_choice.state reached of_choice.here);
        choices_here = of_choice.choices_here;
        are_choices = ap (λ s. choices s.set) from ∙ of_choice.are_choices;
        choice = of_choice.choice;
        chosen = of_choice.chosen;
        is = λ i. record {
          from = state_at f states e.from;
          care = (of_choice.is i).care;
          want = (of_choice.is i).want;
          to = (to ∙ ap (λ s. state_after (untils_of f) s of_choice.choice) (sym from)) i;
          rejecting = (ap (λ d. d.rejecting) of_choice.is
              ∙ ap (λ s. (edge_of (untils_of f) 0 s of_choice.choice 0).rejecting) (sym from)) i;
        };
      }

  -- different edges are different between states themselves
  apart : (d e : EdgeTree) → IsOfChoice (untils_of f) states d → IsOfChoice (untils_of f) states e
      → at_edge d ≡ at_edge e → d ≡ e
  apart d e first second same =
      let from : first.state ≡ second.state = ap (λ o. unwrap_or o (start_state f)) (sym first.here) ∙ ap (λ t. t.from) same
      ∙ ap (λ o. unwrap_or o (start_state f)) second.here in
      let to : state_after (untils_of f) first.state first.choice ≡ state_after (untils_of f) second.state second.choice =
      ap (λ o. unwrap_or o (start_state f)) (sym first.there) ∙ ap (λ t. t.to) same ∙ ap (λ o. unwrap_or o (start_state f)) second.there in
      let from_is : d.from ≡ e.from = once d.from e.from second.state (first.here ∙ ap Some from) second.here in
      let to_is : d.to ≡ e.to = once d.to e.to (state_after (untils_of f) second.state second.choice)
      (first.there ∙ ap Some to) second.there in
      λ i. record { from = from_is i; care = (same i).care; want = (same i).want; to = to_is i; rejecting = (same i).rejecting }

  pub transitions_once : StandOnce (map at_edge edges)
  transitions_once i j t at_i at_j =
      let d = slice_get_mapped at_edge edges i t at_i in
      let e = slice_get_mapped at_edge edges j t at_j in
      let same : d.0 ≡ e.0 = apart d.0 e.0 (each_at (IsOfChoice (untils_of f) states) edges i d.0 of_choices d.1)
      (each_at (IsOfChoice (untils_of f) states) edges j e.0 of_choices e.1) (d.2 ∙ sym e.2) in
      edges_once i j e.0 (d.1 ∙ ap Some same) e.1

  pub too_many_edges : length edges ≡ suc most_automaton_edges → HasTooManyEdges f
  too_many_edges many = record {
    transitions = map at_edge edges;
    many = length-map edges at_edge ∙ many;
    of_choices = each_map (IsTransition f) at_edge edges
        (each_weaker (IsOfChoice (untils_of f) states) (λ e. IsTransition f (at_edge e)) is_transition edges of_choices);
    once = transitions_once;
  }
