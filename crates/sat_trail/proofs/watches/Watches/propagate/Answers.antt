use Rattle.std.proofs.Common.{length, ap, arith}
use Rattle.sat_trail.specs.States.{TrailState}
use Rattle.sat_trail.proofs.Stays.{ready_after, grows_after, watched_quiet}
use Rattle.sat_trail.proofs.watches.Watches.propagate.Goals as goal

pub returns-then-is_some-clause-grows : goal.returns-then-is_some-clause-grows
returns-then-is_some-clause-grows c = grows_after c.loop-self.invariant.grows c.in_ok-conflict.ensures.grows

pub loop-self-preserved : goal.loop-self-preserved
loop-self-preserved c = record {
  ready = ready_after c.loop-self.invariant.ready c.look.ensures.sound c.in_ok-conflict.ensures.grows;
  grows = (grows_after c.loop-self.invariant.grows c.in_ok-conflict.ensures.grows).propagates;
}

pub returns-then-is_some-2-clause-grows : goal.returns-then-is_some-2-clause-grows
returns-then-is_some-2-clause-grows c = grows_after c.loop-self-2.invariant.grows c.in_ok-conflict-2.ensures.grows

pub loop-self-2-preserved : goal.loop-self-2-preserved
loop-self-2-preserved c = record {
  ready = ready_after c.loop-self-2.invariant.ready c.visit_entry.ensures.sound c.in_ok-conflict-2.ensures.grows;
  grows = (grows_after c.loop-self-2.invariant.grows c.in_ok-conflict-2.ensures.grows).propagates;
  none_left = omega (
    arith,
    c.loop-self-2.invariant.none_left,
    ap (λ (t : TrailState). length t.clauses) c.in_ok-conflict-2.ensures.grows.propagates.rest_stays,
    c.visit_entry.ensures.left (length c.visit_entry.new.stack.clauses),
  );
}

pub returns-clause-ends : goal.returns-clause-ends
returns-clause-ends c =
    let kept = c.loop-self-2.invariant in
    watched_quiet c.loop-self-2.stack c.loop-self-2.self kept.ready.sound kept.ready.watched kept.none_left
    (omega (arith, c.loop-self-2-test.false, c.set_count.ensures.value))
