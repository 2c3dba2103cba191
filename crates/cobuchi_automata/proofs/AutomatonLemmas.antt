-- An automaton has each state that is reached, and an edge for each of its choices.
use Rattle.std.proofs.Common.{◌≡◌, ◌∙◌, ℕ, ◌<◌, ◌≤◌, List, length, map, Some, slice_get, Contains, sym, ap, subst, arith}
use Rattle.std.specs.Prelude.{option_map, unwrap_or}
use Rattle.std.specs.List.{AllByRecursion}
use Rattle.std.proofs.lemmas.List.{length-map}
use Rattle.std.proofs.lemmas.Option.{none-some, same_Some, slice_get-map, slice_get-get_or}
use Rattle.base_library.proofs.Each.{each_contained, each_weaker, each_map}
use Rattle.base_library.proofs.Places.{contains_at}
use Rattle.ltl_formula.specs.LtlTree.{LtlTree}
use Rattle.obligations.specs.Expansion.{ChoiceTree, choices}
use Rattle.cobuchi_automata.specs.Automata.{StateTree, EdgeTree, untils_of, start_state, edge_of, IsReached, at_start, by_choice}
use Rattle.cobuchi_automata.specs.Automata.{Leads, IsOfChoice, IsAutomaton}
use Rattle.cobuchi_automata.specs.Refusals.{most_automaton_states, most_automaton_edges, Transition, IsTransition}
use Rattle.base_library.specs.Once.{StandOnce}
use Rattle.cobuchi_automata.specs.Refusals.{HasTooManyChoices, HasTooManyStates, HasTooManyEdges}
use Rattle.cobuchi_automata.specs.Renumbering.{Joins, IsRenumbered}
use Rattle.cobuchi_automata.proofs.OnceLemmas.{Stands, not_more}
use Rattle.cobuchi_automata.proofs.TransitionLemmas.{transition_at, is_transition, transitions_once}

place_of : {A : Type 0} (xs : List A) (x : A) → Contains xs x → Stands xs x
place_of xs x (k, within, is) = (k, slice_get-get_or xs k x within ∙ ap Some is)

module _ (f : LtlTree) (states : List StateTree) (edges : List EdgeTree) (automaton : IsAutomaton f states edges) where
  -- the choices of a state's set lead along edges
  leads_by : (i : ℕ) (s : StateTree) (cs : List ChoiceTree) (c : ChoiceTree) → slice_get states i ≡ Some s → choices s.set ≡ Some cs
      → Contains cs c → Leads (untils_of f) states edges i s c
  leads_by i s cs c at are chosen =
      let found = automaton.leads i s at in
      let same : found.0 ≡ cs = same_Some found.0 cs (sym found.1 ∙ are) in
      each_contained (Leads (untils_of f) states edges i s) cs c
      (subst (AllByRecursion (Leads (untils_of f) states edges i s)) same found.2) chosen

  pub has_state : (s : StateTree) → IsReached f s → Stands states s
  has_state s at_start = (0, automaton.start)
  has_state s (by_choice before cs c reached are chosen) =
      let place = has_state before reached in
      let leads = leads_by place.0 before cs c place.1 are chosen in
      (leads.to, leads.there)

  -- an edge of each choice of a reached state's set
  pub has_edge : (t : Transition) → IsTransition f t → (e : EdgeTree) × Contains edges e × Joins states e t
  has_edge t of_choice =
      let place = has_state t.from of_choice.reached in
      let leads = leads_by place.0 t.from of_choice.choices_here of_choice.choice place.1 of_choice.are_choices of_choice.chosen in (
        edge_of (untils_of f) place.0 t.from of_choice.choice leads.to,
        leads.edge,
        record {
          from = place.1;
          care = sym (ap (λ u. u.care) of_choice.is);
          want = sym (ap (λ u. u.want) of_choice.is);
          to = leads.there ∙ ap Some (sym (ap (λ u. u.to) of_choice.is));
          rejecting = sym (ap (λ u. u.rejecting) of_choice.is);
        },
      )

  abbrev transitions : List Transition
  transitions = map (transition_at f states) edges

  transition_stands : (t : Transition) → IsTransition f t → Stands transitions t
  transition_stands t of_choice =
      let found = has_edge t of_choice in
      let place = place_of edges found.0 found.1 in
      let joins = found.2 in (
        place.0,
        slice_get-map (transition_at f states) edges place.0
            ∙ ap (option_map (transition_at f states)) place.1
            ∙ (λ i. Some (record {
              from = unwrap_or (joins.from i) (start_state f);
              care = joins.care i;
              want = joins.want i;
              to = unwrap_or (joins.to i) (start_state f);
              rejecting = joins.rejecting i;
            })),
      )

  -- ---- the limits

  pub has_choices : HasTooManyChoices f → ⊥
  has_choices many =
      let place = has_state many.state many.reached in
      let found = automaton.leads place.0 many.state place.1 in
      none-some found.0 (sym many.none ∙ found.1)

  pub states_at_least : (more : List StateTree) → StandOnce more → AllByRecursion (IsReached f) more → length more ≤ length states
  states_at_least more once reached = not_more states more once (each_weaker (IsReached f) (Stands states) has_state more reached)

  pub edges_at_least : (more : List Transition) → StandOnce more → AllByRecursion (IsTransition f) more → length more ≤ length edges
  edges_at_least more once each = omega (
    arith,
    not_more transitions more once (each_weaker (IsTransition f) (Stands transitions) transition_stands more each),
    length-map edges (transition_at f states),
  )

  pub passes_states : HasTooManyStates f → most_automaton_states < length states
  passes_states many = omega (arith, many.many, states_at_least many.states many.once many.reached)

  pub passes_edges : HasTooManyEdges f → most_automaton_edges < length edges
  passes_edges many = omega (arith, many.many, edges_at_least many.transitions many.once many.of_choices)

  each_transition : AllByRecursion (IsTransition f) transitions
  each_transition =
      each_map (IsTransition f) (transition_at f states) edges
      (each_weaker (IsOfChoice (untils_of f) states)
      (λ e. IsTransition f (transition_at f states e))
      (is_transition f states edges automaton.reached automaton.once automaton.of_choices automaton.edges_once) edges automaton.of_choices)

  -- what joins states by an edge of the automaton is a transition
  pub joins_by_choice : (e : EdgeTree) (t : Transition) → Contains edges e → Joins states e t → IsTransition f t
  joins_by_choice e t stands joins =
      subst (IsTransition f)
      (λ i. record {
        from = unwrap_or (joins.from i) (start_state f);
        care = joins.care i;
        want = joins.want i;
        to = unwrap_or (joins.to i) (start_state f);
        rejecting = joins.rejecting i;
      })
      (is_transition f states edges automaton.reached automaton.once automaton.of_choices automaton.edges_once e
      (each_contained (IsOfChoice (untils_of f) states) edges e automaton.of_choices stands))

-- ---- two automata of a formula

module _ (f : LtlTree) (states : List StateTree) (edges : List EdgeTree) (more_states : List StateTree) (more_edges : List EdgeTree)
    (one : IsAutomaton f states edges) (other : IsAutomaton f more_states more_edges) where
  states_still : length states ≤ length more_states
  states_still = states_at_least f more_states more_edges other states one.once one.reached

  edges_still : length edges ≤ length more_edges
  edges_still = omega (
    arith,
    length-map edges (transition_at f states),
    edges_at_least f more_states more_edges other (transitions f states edges one)
        (transitions_once f states edges one.reached one.once one.of_choices one.edges_once) (each_transition f states edges one),
  )

pub renumbered : (f : LtlTree) (states : List StateTree) (edges : List EdgeTree) (more_states : List StateTree) (more_edges : List EdgeTree)
    → IsAutomaton f states edges → IsAutomaton f more_states more_edges → IsRenumbered states edges more_states more_edges
renumbered f states edges more_states more_edges one other = record {
  as_many_states = omega (
    arith,
    states_still f states edges more_states more_edges one other,
    states_still f more_states more_edges states edges other one,
  );
  as_many_edges = omega (
    arith,
    edges_still f states edges more_states more_edges one other,
    edges_still f more_states more_edges states edges other one,
  );
  same_states = λ s stands.
      let place = has_state f more_states more_edges other s (each_contained (IsReached f) states s one.reached stands) in
      contains_at more_states place.0 s place.1;
  same_edges = λ e t stands joins. has_edge f more_states more_edges other t (joins_by_choice f states edges one e t stands joins);
}
