use Rattle.std.proofs.Common.{◌+◌, sym, arith, rules}
use Rattle.tsl_io.proofs.Told.{takes_more}
use Rattle.tsl_io.proofs.Handed.{hands_more}
use Rattle.tsl_io.proofs.source.read_into.Goals as goal

pub returns-in_err-count-clause-prefix : goal.returns-in_err-count-clause-prefix
returns-in_err-count-clause-prefix g c =
    let so_far = c.loop-taken.invariant.handed_on in
    takes_more so_far.0 _ _ _ (sym so_far.2) c.in_err-count.ensures.prefix

pub returns-then-count-eq0-clause-ok : goal.returns-then-count-eq0-clause-ok
returns-then-count-eq0-clause-ok g c = (
  c.loop-taken.taken + c.in_ok-count.count,
  omega arith,
  hands_more c.loop-taken.taken c.in_ok-count.count _ _ _ (g.T.TakePieces.has_taken c.args.taker.now)
      (g.T.TakePieces.has_taken c.loop-taken.taker) (g.T.TakePieces.has_taken c.read_piece.new.taker) c.loop-taken.invariant.handed_on
      c.in_ok-count.ensures.ok,
)

pub loop-taken-preserved : goal.loop-taken-preserved
loop-taken-preserved g c = record {
  handed_on = hands_more c.loop-taken.taken c.in_ok-count.count _ _ _ (g.T.TakePieces.has_taken c.args.taker.now)
      (g.T.TakePieces.has_taken c.loop-taken.taker) (g.T.TakePieces.has_taken c.read_piece.new.taker) c.loop-taken.invariant.handed_on
      c.in_ok-count.ensures.ok;
  count = search rules;
  within = search rules;
  room = search rules;
}
