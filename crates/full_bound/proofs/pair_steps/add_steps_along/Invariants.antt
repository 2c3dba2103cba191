use Rattle.std.proofs.Common.{◌≡◌, ◌++◌, map, take}
use Rattle.cobuchi_automata.specs.Edges.{edge_tree}
use Rattle.machines.specs.MachineView.{move_tree}
use Rattle.full_bound.specs.internal.Pairs.{edge_steps}
use Rattle.full_bound.specs.internal.PairTable.{listed_step}
use Rattle.full_bound.proofs.pair_steps.add_steps_along.Given as goal

abbrev pub invariant-loop-step : goal.invariant-loop-step
invariant-loop-step l =
    l.steps.items ≡ l.fn.steps.items ++ map (listed_step l.states)
    (edge_steps (edge_tree l.edge) (map move_tree (take l.step-index l.moves)))
