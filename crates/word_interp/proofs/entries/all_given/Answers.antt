use Rattle.table_syntax.specs.View.{word_entries_view}
use Rattle.word_interp.specs.Words.{given_for}
use Rattle.word_interp.proofs.Checked.{mapped_more}
use Rattle.word_interp.proofs.entries.all_given.Goals as goal

pub loop-id-preserved : goal.loop-id-preserved
loop-id-preserved c =
    rw c.in_ok-push.ensures.items
    (mapped_more (given_for c.args.names.now (word_entries_view c.args.entries.now)) c.loop-id.id c.loop-id.given.items c.given_for.result
    c.given_for.ensures c.loop-id.invariant)
