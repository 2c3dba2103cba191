use Rattle.std.proofs.Common.{[]}
use Rattle.base_library.proofs.Results.{handed_on}
use Rattle.ltl_formula.specs.LtlTree.{ltl_tree}
use Rattle.obligations.specs.Numbers.{lent_trees}
use Rattle.cobuchi_automata.specs.Edges.{edge_trees}
use Rattle.cobuchi_automata.specs.Refusals.{HasBuildCause, build_error}
use Rattle.cobuchi_automata.specs.internal.Exploring.{state_key, state_keys}
use Rattle.cobuchi_automata.proofs.TurnLemmas.{no_choices}
use Rattle.cobuchi_automata.proofs.exploring.expand_state.Goals as goal

pub returns-in_err-place-clause-refused : goal.returns-in_err-place-clause-refused
returns-in_err-place-clause-refused c =
    handed_on c.from_residual-in_err-place.result (build_error c.in_err-place.field-0.0)
    (HasBuildCause (ltl_tree c.args.plan.now.formula.now)) c.from_residual-in_err-place.ensures.1
    (no_choices (ltl_tree c.args.plan.now.formula.now) (lent_trees c.args.plan.now.names.items) c.args.plan.now.untils.items c.args.from
    (state_keys c.args.found.now.states.keys) (edge_trees c.args.found.now.edges.keys) (state_key c.in_ok-state.state)
    [] c.requires.found.explored c.in_ok-state.ensures c.in_err-place.field-0.0
    (rw c.deref.ensures.value at c.in_err-place.ensures.many))
