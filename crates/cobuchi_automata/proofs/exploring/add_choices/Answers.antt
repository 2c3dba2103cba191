use Rattle.std.proofs.Common.{arith}
use Rattle.base_library.proofs.Results.{handed_on}
use Rattle.ltl_formula.specs.LtlTree.{ltl_tree}
use Rattle.obligations.specs.Numbers.{lent_trees}
use Rattle.cobuchi_automata.specs.Edges.{edge_trees}
use Rattle.cobuchi_automata.specs.Refusals.{HasBuildCause}
use Rattle.cobuchi_automata.specs.internal.Exploring.{state_key, state_keys}
use Rattle.cobuchi_automata.proofs.TurnLemmas.{well_here, turn, turn_refused, all_taken}
use Rattle.cobuchi_automata.proofs.exploring.add_choices.Goals as goal

pub add_choice-requires-clause-within : goal.add_choice-requires-clause-within
add_choice-requires-clause-within c =
    (well_here (ltl_tree c.args.plan.now.formula.now) (lent_trees c.args.plan.now.names.items) c.args.plan.now.untils.items c.args.from
    (state_keys c.loop-choice.found.states.keys) (edge_trees c.loop-choice.found.edges.keys) (state_key c.args.state.now) c.args.list.now
    c.loop-choice.choice-index c.choice-item.result c.loop-choice-test.true c.choice-item.is c.requires.well).within

pub returns-in_err-add_choice-clause-refused : goal.returns-in_err-add_choice-clause-refused
returns-in_err-add_choice-clause-refused c =
    handed_on c.from_residual.result c.in_err-add_choice.field-0.0 (HasBuildCause (ltl_tree c.args.plan.now.formula.now))
    c.from_residual.ensures.1
    (turn_refused (ltl_tree c.args.plan.now.formula.now) (lent_trees c.args.plan.now.names.items) c.args.plan.now.untils.items c.args.from
    (state_keys c.loop-choice.found.states.keys) (edge_trees c.loop-choice.found.edges.keys) (state_key c.args.state.now) c.args.list.now
    c.loop-choice.choice-index c.choice-item.result c.loop-choice-test.true c.choice-item.is c.requires.plan
    c.loop-choice.invariant.explored c.loop-choice.invariant.here c.requires.choices c.requires.well
    (state_keys c.add_choice.new.found.states.keys) (edge_trees c.add_choice.new.found.edges.keys) c.in_err-add_choice.field-0.0
    (rw c.deref.ensures.value at c.in_err-add_choice.ensures.refused))

pub loop-choice-preserved : goal.loop-choice-preserved
loop-choice-preserved c =
    let all = turn (ltl_tree c.args.plan.now.formula.now) (lent_trees c.args.plan.now.names.items) c.args.plan.now.untils.items c.args.from
    (state_keys c.loop-choice.found.states.keys) (edge_trees c.loop-choice.found.edges.keys) (state_key c.args.state.now) c.args.list.now
    c.loop-choice.choice-index c.choice-item.result c.loop-choice-test.true c.choice-item.is c.requires.plan
    c.loop-choice.invariant.explored c.loop-choice.invariant.here c.requires.choices c.requires.well
    (state_keys c.add_choice.new.found.states.keys) (edge_trees c.add_choice.new.found.edges.keys)
    (rw c.deref.ensures.value at c.in_ok-add_choice.ensures.takes) c.loop-choice.invariant.leads in
    record {
      explored = all.0;
      here = all.1;
      leads = all.2;
      few_states = c.in_ok-add_choice.ensures.few_states;
      few_edges = c.in_ok-add_choice.ensures.few_edges;
    }

pub returns-clause-found : goal.returns-clause-found
returns-clause-found c = record {
  explored = all_taken (ltl_tree c.args.plan.now.formula.now) (lent_trees c.args.plan.now.names.items) c.args.plan.now.untils.items
      c.args.from (state_keys c.loop-choice.found.states.keys) (edge_trees c.loop-choice.found.edges.keys) (state_key c.args.state.now)
      c.args.list.now c.loop-choice.choice-index (omega (arith, c.loop-choice-test.false)) c.requires.plan c.loop-choice.invariant.explored
      c.loop-choice.invariant.here c.requires.choices c.loop-choice.invariant.leads;
  few_states = c.loop-choice.invariant.few_states;
  few_edges = c.loop-choice.invariant.few_edges;
}
