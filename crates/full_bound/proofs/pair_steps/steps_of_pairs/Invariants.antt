use Rattle.std.proofs.Common.{◌≡◌, ◌*◌, ◌/◌, ◌<◌, ◌≤◌, ℕ, [], length, map}
use Rattle.cobuchi_automata.specs.Edges.{edge_trees}
use Rattle.letter_space.specs.SpaceView.{space_tree}
use Rattle.machines.specs.MachineView.{controller_tree}
use Rattle.machines.specs.Moves.{controller_moves}
use Rattle.full_bound.specs.internal.Pairs.{pair_steps}
use Rattle.full_bound.specs.internal.PairTable.{listed_step}
use Rattle.full_bound.specs.internal.Search.{steps_from}
use Rattle.full_bound.proofs.pair_steps.steps_of_pairs.Given as goal

abbrev pub invariant-loop-state : goal.invariant-loop-state
invariant-loop-state l =
    (length l.table.items ≡ l.controller.states * l.automaton.states)
    × ((p : ℕ) → p / l.automaton.states < l.state → steps_from l.table.items p ≡ map (listed_step l.automaton.states)
    (pair_steps l.automaton.states (controller_moves (space_tree l.space) (controller_tree l.controller)) (edge_trees l.automaton.edges) p))
    × ((p : ℕ) → l.state ≤ p / l.automaton.states → steps_from l.table.items p ≡ [])
