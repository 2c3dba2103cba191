use Rattle.std.proofs.Common.{◌≡◌, length, take}
use Rattle.loop_acceptance.specs.internal.Product.{row_lists, AreEdgeRows}
use Rattle.loop_acceptance.proofs.rows.edges_by_state.Given as goal

abbrev pub invariant-loop-edge : goal.invariant-loop-edge
invariant-loop-edge l = (length l.rows.items ≡ l.automaton.states) × AreEdgeRows (row_lists l.rows.items) (take l.edge-index
    l.automaton.edges)
