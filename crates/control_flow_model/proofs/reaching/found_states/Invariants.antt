use Rattle.std.proofs.Common.{◌-◌}
use Rattle.machines.specs.MachineView.{controller_tree}
use Rattle.control_flow_model.specs.internal.Reaching.{AreFound}
use Rattle.control_flow_model.proofs.reaching.found_states.Given as goal

-- so many states are expanded
abbrev pub invariant-loop-expanded : goal.invariant-loop-expanded
invariant-loop-expanded l = AreFound (controller_tree l.controller) l.expanded l.found.items

-- there are not more states than the controller has
abbrev pub decreases-loop-expanded : goal.decreases-loop-expanded
decreases-loop-expanded l = l.controller.states - l.expanded
