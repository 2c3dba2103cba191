use Rattle.std.proofs.Common.{◌-◌}
use Rattle.machines.specs.MachineView.{environment_tree}
use Rattle.branch_finder.specs.internal.Visiting.{AreFoundUpTo}
use Rattle.branch_finder.proofs.visiting.visited_states.Given as goal

-- so many states are expanded
abbrev pub invariant-loop-expanded : goal.invariant-loop-expanded
invariant-loop-expanded l = AreFoundUpTo (environment_tree l.environment) l.expanded 0 l.found.items

-- there are not more states than the environment has
abbrev pub decreases-loop-expanded : goal.decreases-loop-expanded
decreases-loop-expanded l = l.environment.states - l.expanded
