use Rattle.loop_acceptance.specs.internal.Product.{nodes_of, edge_rows_of, steps_in, row_edges}
use Rattle.loop_acceptance.specs.internal.Search.{nested_left, IsNestedSearch}
use Rattle.loop_acceptance.proofs.search.has_turn.Given as goal

abbrev pub invariant-loop-search : goal.invariant-loop-search
invariant-loop-search l =
    IsNestedSearch (steps_in l.product) (nodes_of l.product) l.search.marks l.search.red.items l.search.frames.items

abbrev pub decreases-loop-search : goal.decreases-loop-search
decreases-loop-search l = nested_left (row_edges (edge_rows_of l.product)) l.search.marks l.search.frames.items
