use Rattle.std.proofs.Common.{◌≤◌, length, sym, subst, arith}
use Rattle.std.proofs.lemmas.List.{length-map}
use Rattle.tsl_terms.specs.SpecView.{spec_tree}
use Rattle.program_tree.specs.NodeTree.{node_tree}
use Rattle.program_tree.specs.ProgramView.{program_tree}
use Rattle.letter_space.specs.SpaceView.{space_tree}
use Rattle.cobuchi_automata.specs.Edges.{edge_trees}
use Rattle.machines.specs.MachineView.{controller_tree}
use Rattle.machines.proofs.ControllerTables.{is_controller}
use Rattle.control_flow_model.specs.ProgramBits.{ProgramHasBits}
use Rattle.program_check.proofs.ProgramNames.{spec_fits, keeps}
use Rattle.judged_controllers.proofs.JudgedProgramsRealize.{has_bits, few_states, judged_over}
use Rattle.judged_controllers.proofs.WritablePrograms.{writable}
use Rattle.judged_controllers.proofs.judging.judged_program.Goals as goal

pub controller_of-requires-clause-bits : goal.controller_of-requires-clause-bits
controller_of-requires-clause-bits c =
    subst (λ s. ProgramHasBits s (program_tree c.in_ok-program.program)) (sym c.requires.space)
    (has_bits (spec_tree c.args.spec.now) (controller_tree c.args.machine.now) (program_tree c.in_ok-program.program) c.in_ok-program.ensures)

pub controller_of-requires-clause-few_states : goal.controller_of-requires-clause-few_states
controller_of-requires-clause-few_states c =
    let states = few_states (spec_tree c.args.spec.now) (controller_tree c.args.machine.now) (program_tree c.in_ok-program.program)
    c.in_ok-program.ensures (is_controller c.args.machine.now) in
    omega (arith, states, c.requires.few_states)

pub returns-in-Some-clause-realizes : goal.returns-in-Some-clause-realizes
returns-in-Some-clause-realizes c =
    judged_over (spec_tree c.args.spec.now) (controller_tree c.args.machine.now) (program_tree c.in_ok-program.program) c.in_ok-program.ensures
    (spec_fits c.args.spec.now) c.requires.few_bits (keeps c.in_ok-program.program) (space_tree c.args.space.now) c.requires.space
    (controller_tree c.in_ok-table.table) c.in_ok-table.ensures (edge_trees c.args.automaton.now.edges) c.requires.automaton c.args.bound _
    (rw c.in-Some.is at c.in_ok-annotation.ensures.annotation)

pub returns-in-Some-clause-few_states : goal.returns-in-Some-clause-few_states
returns-in-Some-clause-few_states c =
    few_states (spec_tree c.args.spec.now) (controller_tree c.args.machine.now) (program_tree c.in_ok-program.program) c.in_ok-program.ensures
    (is_controller c.args.machine.now)

pub returns-in-Some-clause-writable : goal.returns-in-Some-clause-writable
returns-in-Some-clause-writable c fits =
    let program = c.in_ok-program.program in
    let nodes = c.is_small.ensures c.if-not-is_small.false in
    let count = length-map program.nodes node_tree in
    let states = few_states (spec_tree c.args.spec.now) (controller_tree c.args.machine.now) (program_tree program) c.in_ok-program.ensures
    (is_controller c.args.machine.now) in
    writable (spec_tree c.args.spec.now) fits (controller_tree c.args.machine.now) (program_tree program) c.in_ok-program.ensures
    (keeps program) (omega (arith, nodes, count)) (omega (arith, states, c.requires.few_states))
