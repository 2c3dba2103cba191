use Rattle.std.proofs.Common.{take, arith}
use Rattle.tsl_text.proofs.PlaceLaws.{place_feed, place_byte}
use Rattle.tsl_text.proofs.places.place_of.Goals as goal
use Rattle.tsl_text.proofs.places.place_of.Goals.{then-byte-eq10, else-byte-eq10}

pub loop-byte-preserved : goal.loop-byte-preserved
loop-byte-preserved c =
    let bytes = take c.args.offset c.args.text.now in
    let l = c.loop-byte in
    elim c.if-byte-eq10.branch [
      | then-byte-eq10 w ↦ rw (w.line-is, w.column-is) (record {
        place = place_feed bytes l.byte-index l.line l.column c.loop-byte-test.true l.invariant.place w.if-byte-eq10.true;
        within = omega arith;
      })
      | else-byte-eq10 w ↦ rw (w.line-is, w.column-is) (record {
        place = place_byte bytes l.byte-index l.line l.column c.loop-byte-test.true l.invariant.place w.if-byte-eq10.false;
        within = omega arith;
      })
    ]
