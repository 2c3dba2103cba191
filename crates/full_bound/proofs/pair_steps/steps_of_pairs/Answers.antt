use Rattle.std.proofs.Common.{◌∙◌, map, Contains, ap, subst, arith}
use Rattle.cobuchi_automata.specs.Edges.{edge_trees}
use Rattle.letter_space.specs.SpaceView.{space_tree}
use Rattle.machines.specs.MachineView.{controller_tree, move_tree}
use Rattle.machines.specs.Moves.{controller_moves}
use Rattle.machines.proofs.ControllerTables.{is_controller}
use Rattle.annotation_check.proofs.MovesStay.{controller_moves_are}
use Rattle.full_bound.specs.internal.Search.{steps_from}
use Rattle.full_bound.proofs.StepsListed.{state_more, all_listed}
use Rattle.full_bound.proofs.pair_steps.steps_of_pairs.Goals as goal

pub add_steps-requires-clause-stay : goal.add_steps-requires-clause-stay
add_steps-requires-clause-stay c = λ m stands.
    let are = ap (map move_tree) c.deref.ensures.value ∙ c.in_ok-moves.ensures in
    let next = (controller_moves_are (space_tree c.args.space.now) (controller_tree c.args.controller.now)
    (is_controller c.args.controller.now)).stay
    c.loop-state.state m (subst (λ ms. Contains ms m) are stands) in
    let few = c.requires.few_controller_states in
    omega (arith, next, few)

pub loop-state-preserved : goal.loop-state-preserved
loop-state-preserved c =
    let moves = controller_moves (space_tree c.args.space.now) (controller_tree c.args.controller.now) in
    let listed = state_more c.args.automaton.now.states moves (edge_trees c.args.automaton.now.edges) (steps_from c.loop-state.table.items)
    (steps_from c.add_steps.new.table.items) c.loop-state.state (map move_tree c.deref.result.now)
    (ap (map move_tree) c.deref.ensures.value ∙ c.in_ok-moves.ensures) (c.loop-state.invariant.1, c.loop-state.invariant.2)
    c.in_ok-add_steps.ensures.steps in
    (c.in_ok-add_steps.ensures.pairs ∙ c.loop-state.invariant.0, listed.0, listed.1)

pub returns-clause-steps : goal.returns-clause-steps
returns-clause-steps c =
    let moves = controller_moves (space_tree c.args.space.now) (controller_tree c.args.controller.now) in
    let end = c.loop-state-test.false in
    all_listed c.args.automaton.now.states moves (edge_trees c.args.automaton.now.edges) (steps_from c.loop-state.table.items)
    c.loop-state.state
    (λ s past. (controller_moves_are (space_tree c.args.space.now) (controller_tree c.args.controller.now)
    (is_controller c.args.controller.now)).past s
    (omega (arith, end, past)))
    (c.loop-state.invariant.1, c.loop-state.invariant.2)
