use Rattle.std.proofs.Common.{◌≡◌, ◌+◌, ◌/◌, List, length, take}
use Rattle.cobuchi_automata.specs.Edges.{edge_trees}
use Rattle.machines.specs.Moves.{MoveTree}
use Rattle.annotation_check.specs.internal.Listings.{IsMoveListing}
use Rattle.annotation_check.specs.internal.Steps.{AreSteps}
use Rattle.annotation_check.proofs.stepping.steps_of.Given as goal

abbrev pub invariant-loop-edge : goal.invariant-loop-edge
invariant-loop-edge l =
    (length l.matches.items ≡ (length l.moves.letters.items + 63) / 64)
    × ((listed : List MoveTree) → IsMoveListing listed l.moves.letters.items l.moves.next.items
    → AreSteps listed (take l.edge-index (edge_trees l.edges)) l.steps.items)
