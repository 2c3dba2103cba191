use Rattle.std.proofs.Common.{◌∙◌, [], ◌∷◌, ◌++◌, get_or, arith}
use Rattle.loop_acceptance.specs.internal.Product.{row_lists}
use Rattle.loop_acceptance.proofs.RowsFilled.{no_rows, rows_more, rows_many, rows_counted}
use Rattle.loop_acceptance.proofs.rows.edges_by_state.Goals as goal

pub loop-edge-init : goal.loop-edge-init
loop-edge-init c = (c.in_ok-rows.ensures.states, no_rows (row_lists c.in_ok-rows.rows.items) c.in_ok-rows.ensures.none)

pub loop-edge-preserved : goal.loop-edge-preserved
loop-edge-preserved c =
    let e = c.edge-item.result in
    let old = c.loop-edge.rows.items in
    let new = c.add_edge.new.rows.items in
    let many = c.loop-edge.invariant.0 in (
      rows_many old new e.from (get_or (row_lists old) e.from [] ++ e ∷ []) c.in_ok-add_edge.ensures ∙ many,
      rows_more c.as_slice-edge-items.result.now c.args.automaton.now.edges c.as_slice-edge-items.ensures c.loop-edge.edge-index e
          c.args.automaton.now.states (omega arith) c.edge-item.is c.args.automaton.now.between (row_lists old) (row_lists new)
          (rows_counted old c.args.automaton.now.states many) c.loop-edge.invariant.1 c.in_ok-add_edge.ensures,
    )
