use Rattle.base_library.proofs.Lists.{written_step}
use Rattle.machines.specs.MachineView.{environment_tree}
use Rattle.environment_text.specs.EnvironmentText.{state_line}
use Rattle.environment_text.proofs.Pieces.{piece_left}
use Rattle.environment_text.proofs.environment.put_states.Goals as goal

pub loop-state-preserved : goal.loop-state-preserved
loop-state-preserved c =
    written_step _ _ _ _ _ _ c.loop-state.invariant
    (piece_left (state_line c.args.tests (environment_tree c.args.environment.now)) c.args.environment.now.states c.loop-state.state
    c.loop-state-test.true)
    c.in_ok-put_state.ensures
