-- What is written and what is left make the whole.
use Rattle.std.proofs.Common.{◌≡◌, ◌-◌, ◌++◌}
use Rattle.std.specs.Prelude.{flat_map}
use Rattle.std.specs.List.{range_with_len}
use Rattle.machines.specs.MachineView.{environment_tree}
use Rattle.environment_text.specs.EnvironmentText.{successor_text}
use Rattle.environment_text.proofs.environment.put_successors.Given as goal

abbrev pub invariant-loop-vector : goal.invariant-loop-vector
invariant-loop-vector l =
    l.out.items ++ flat_map (successor_text (environment_tree l.environment) l.state) (range_with_len l.vector (l.environment.vectors - l.vector))
    ≡ l.fn.out.items ++ flat_map (successor_text (environment_tree l.environment) l.state) (range_with_len 0 l.environment.vectors)
