use Rattle.std.proofs.Common.{arith}
use Rattle.cobuchi_automata.specs.Edges.{edge_trees}
use Rattle.letter_space.specs.SpaceView.{space_tree}
use Rattle.machines.specs.MachineView.{controller_tree}
use Rattle.machines.specs.Moves.{controller_moves}
use Rattle.machines.proofs.ControllerTables.{is_controller}
use Rattle.annotation_check.proofs.ListedByState.{listed_moves_length, listed_moves_stay, pairs_of_listed}
use Rattle.annotation_check.proofs.MovesStay.{controller_moves_are}
use Rattle.annotation_check.proofs.pairing.controller_pairs.Goals as goal

pub machine_pairs-requires-clause-starts : goal.machine_pairs-requires-clause-starts
machine_pairs-requires-clause-starts c = let h = c.args.controller.now.has_state in omega (arith, h)

pub machine_pairs-requires-clause-listed : goal.machine_pairs-requires-clause-listed
machine_pairs-requires-clause-listed c =
    let space = space_tree c.args.space.now in
    let machine = controller_tree c.args.controller.now in
    let many = listed_moves_length (controller_moves space machine) machine.states
    (controller_moves_are space machine (is_controller c.args.controller.now))
    c.in_ok-moves.moves.items c.in_ok-moves.ensures in
    omega (arith, many, c.in_ok-moves.moves.ok.0)

pub machine_pairs-requires-clause-stay : goal.machine_pairs-requires-clause-stay
machine_pairs-requires-clause-stay c =
    let space = space_tree c.args.space.now in
    let machine = controller_tree c.args.controller.now in
    listed_moves_stay (controller_moves space machine) machine.states
    (controller_moves_are space machine (is_controller c.args.controller.now))
    c.in_ok-moves.moves.items c.in_ok-moves.ensures

pub returns : goal.returns
returns c =
    let space = space_tree c.args.space.now in
    let machine = controller_tree c.args.controller.now in
    pairs_of_listed (controller_moves space machine) machine.states
    (controller_moves_are space machine (is_controller c.args.controller.now))
    c.in_ok-moves.moves.items c.in_ok-moves.ensures (edge_trees c.args.automaton.now.edges) c.args.automaton.now.states c.args.bound
    c.machine_pairs.result c.machine_pairs.ensures
