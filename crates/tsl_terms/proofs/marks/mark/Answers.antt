use Rattle.std.proofs.Common.{arith}
use Rattle.tsl_terms.proofs.MarkLemmas.{mark_place, mark_past}
use Rattle.tsl_terms.proofs.marks.mark.Goals as goal

pub returns-then-place-len : goal.returns-then-place-len
returns-then-place-len c = mark_place c.args.marks.now.items c.args.signal

pub returns-else-place-len : goal.returns-else-place-len
returns-else-place-len c = mark_past c.args.marks.now.items c.args.signal (omega arith)
