-- What is written and what is left make the whole.
use Rattle.std.proofs.Common.{◌≡◌, ◌-◌, ◌++◌}
use Rattle.std.specs.Prelude.{flat_map}
use Rattle.std.specs.List.{range_with_len}
use Rattle.machines.specs.MachineView.{environment_tree}
use Rattle.environment_text.specs.EnvironmentText.{state_line}
use Rattle.environment_text.proofs.environment.put_states.Given as goal

abbrev pub invariant-loop-state : goal.invariant-loop-state
invariant-loop-state l =
    l.out.items ++ flat_map (state_line l.tests (environment_tree l.environment)) (range_with_len l.state (l.environment.states - l.state))
    ≡ l.fn.out.items ++ flat_map (state_line l.tests (environment_tree l.environment)) (range_with_len 0 l.environment.states)
