use Rattle.std.proofs.Common.{◌≡◌, ◌++◌, ℕ, length, map, take}
use Rattle.cobuchi_automata.specs.Edges.{edge_trees}
use Rattle.machines.specs.MachineView.{move_tree}
use Rattle.full_bound.specs.internal.PairTable.{steps_of_state}
use Rattle.full_bound.specs.internal.Search.{steps_from}
use Rattle.full_bound.proofs.pair_steps.add_steps.Given as goal

abbrev pub invariant-loop-edge : goal.invariant-loop-edge
invariant-loop-edge l =
    (length l.table.items ≡ length l.fn.table.items)
    × ((p : ℕ) → steps_from l.table.items p ≡ steps_from l.fn.table.items p
    ++ steps_of_state l.automaton.states l.state (map move_tree l.moves) (take l.edge-index (edge_trees l.automaton.edges)) p)
