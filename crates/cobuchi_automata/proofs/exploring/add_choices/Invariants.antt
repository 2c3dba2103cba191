use Rattle.std.proofs.Common.{◌≡◌, ◌≤◌, Some, length, map, take, slice_get}
use Rattle.std.specs.List.{AllByRecursion}
use Rattle.ltl_formula.specs.LtlTree.{ltl_tree}
use Rattle.obligations.specs.Named.{choice_named}
use Rattle.obligations.specs.Numbers.{choice_keys, lent_trees}
use Rattle.cobuchi_automata.specs.Automata.{untils_of, Leads}
use Rattle.cobuchi_automata.specs.Edges.{edge_trees}
use Rattle.cobuchi_automata.specs.Refusals.{most_automaton_states, most_automaton_edges}
use Rattle.cobuchi_automata.specs.internal.Exploring.{state_key, state_keys, state_named, states_named, IsExplored}
use Rattle.cobuchi_automata.proofs.exploring.add_choices.Given as goal

-- the state stands where it stood, and the choices gone through lead along edges
abbrev pub invariant-loop-choice : goal.invariant-loop-choice
invariant-loop-choice l = record {
  explored : IsExplored (ltl_tree l.plan.formula.now) (lent_trees l.plan.names.items) l.plan.untils.items l.from
      (state_keys l.found.states.keys) (edge_trees l.found.edges.keys);
  here : slice_get (state_keys l.found.states.keys) l.from ≡ Some (state_key l.state);
  leads : AllByRecursion
      (Leads (untils_of (ltl_tree l.plan.formula.now)) (states_named (lent_trees l.plan.names.items) (state_keys l.found.states.keys))
      (edge_trees l.found.edges.keys) l.from (state_named (lent_trees l.plan.names.items) (state_key l.state)))
      (map (choice_named (lent_trees l.plan.names.items)) (choice_keys (take l.choice-index l.list)));
  few_states : length l.found.states.keys ≤ most_automaton_states;
  few_edges : length l.found.edges.keys ≤ most_automaton_edges;
}
