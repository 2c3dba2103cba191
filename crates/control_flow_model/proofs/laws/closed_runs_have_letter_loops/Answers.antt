use Rattle.control_flow_model.proofs.RunLoops.{letter_loop_of_run}
use Rattle.control_flow_model.proofs.laws.closed_runs_have_letter_loops.Goals as goal

pub returns : goal.returns
returns c = λ space program controller is_space bits is_controller meanings rows shape closed.
    letter_loop_of_run space controller is_space meanings program rows bits is_controller shape closed
