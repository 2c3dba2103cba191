use Rattle.std.proofs.Common.{List, map, sym, subst}
use Rattle.tsl_terms.specs.declared.window.Window.{Window}
use Rattle.tsl_terms.specs.SpecView.{spec_tree}
use Rattle.tsl_terms.specs.WindowTree.{window_tree}
use Rattle.program_tree.specs.ProgramView.{program_tree}
use Rattle.letter_space.specs.SpaceView.{space_tree}
use Rattle.cobuchi_automata.specs.Automata.{IsAutomaton}
use Rattle.cobuchi_automata.specs.Edges.{edge_trees}
use Rattle.machines.specs.declared.side.Side.TheVariants.{Controller}
use Rattle.machines.specs.MachineView.{controller_tree}
use Rattle.control_flow_model.specs.ProgramBits.{ProgramHasBits}
use Rattle.program_check.specs.Verdicts.{form_for}
use Rattle.program_check.proofs.Accepted.{over_bits, realized, annotated, not_annotated}
use Rattle.program_check.proofs.ProgramNames.{spec_fits, keeps}
use Rattle.program_check.proofs.accepting.verdict_on_runs.Goals as goal

pub controller_of-requires-clause-bits : goal.controller_of-requires-clause-bits
controller_of-requires-clause-bits c =
    subst (λ s. ProgramHasBits s (program_tree c.args.program.now)) (sym c.requires.space)
    (over_bits (spec_tree c.args.spec.now) (program_tree c.args.program.now) c.requires.over)

pub returns-in-Some-clause-verdict : goal.returns-in-Some-clause-verdict
returns-in-Some-clause-verdict c =
    let made = c.in_ok-automaton.ensures in
    let automaton = subst (λ (ws : List Window). IsAutomaton (form_for Controller (spec_tree c.args.spec.now) (map window_tree ws))
    made.automaton.0 (edge_trees c.in_ok-automaton.automaton.edges)) c.as_slice-windows.ensures made.automaton.2 in (
      c.requires.over,
      annotated (spec_tree c.args.spec.now) (program_tree c.args.program.now) (space_tree c.args.space.now) c.requires.space
          (controller_tree c.in_ok-controller.controller) c.in_ok-controller.ensures made.automaton.0 c.in_ok-automaton.automaton.edges _
          made.automaton.1 automaton made.few_states made.few_edges c.args.bound _
          (rw c.in-Some.is at c.in_ok-annotation.ensures.annotation),
    )

pub returns-in-Some-clause-realized : goal.returns-in-Some-clause-realized
returns-in-Some-clause-realized c =
    let made = c.in_ok-automaton.ensures in
    let automaton = subst (λ (ws : List Window). IsAutomaton (form_for Controller (spec_tree c.args.spec.now) (map window_tree ws))
    made.automaton.0 (edge_trees c.in_ok-automaton.automaton.edges)) c.as_slice-windows.ensures made.automaton.2 in
    let found = annotated (spec_tree c.args.spec.now) (program_tree c.args.program.now) (space_tree c.args.space.now) c.requires.space
    (controller_tree c.in_ok-controller.controller) c.in_ok-controller.ensures made.automaton.0 c.in_ok-automaton.automaton.edges _
    made.automaton.1 automaton made.few_states made.few_edges c.args.bound _
    (rw c.in-Some.is at c.in_ok-annotation.ensures.annotation) in
    λ _. realized (spec_tree c.args.spec.now) (program_tree c.args.program.now) c.args.bound (spec_fits c.args.spec.now)
    (keeps c.args.program.now) c.requires.few_bits c.requires.over found

pub returns-clause-verdict : goal.returns-clause-verdict
returns-clause-verdict c =
    let made = c.in_ok-automaton.ensures in
    let automaton = subst (λ (ws : List Window). IsAutomaton (form_for Controller (spec_tree c.args.spec.now) (map window_tree ws))
    made.automaton.0 (edge_trees c.in_ok-automaton.automaton.edges)) c.as_slice-windows.ensures made.automaton.2 in (
      c.requires.over,
      not_annotated (spec_tree c.args.spec.now) (program_tree c.args.program.now) (space_tree c.args.space.now) c.requires.space
          (controller_tree c.in_ok-controller.controller) c.in_ok-controller.ensures made.automaton.0 c.in_ok-automaton.automaton.edges _
          made.automaton.1 automaton made.few_states made.few_edges c.args.bound c.requires.few_bits
          (rw c.in-None.is at c.in_ok-annotation.ensures.none),
    )
