use Rattle.loop_acceptance.proofs.RowsFilled.{row_added}
use Rattle.loop_acceptance.proofs.rows.add_edge.Goals as goal

pub returns : goal.returns
returns c =
    row_added c.args.rows.now.items c.args.edge.from c.index_mut.result.now c.push.new.self c.args.edge c.requires c.index_mut.ensures.value
    c.in_ok-push.ensures.items
