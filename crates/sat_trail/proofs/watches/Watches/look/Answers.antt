use Rattle.sat_trail.proofs.TrailSteps.{propagates_none}
use Rattle.sat_trail.proofs.Waiting.{watched_released, next_waits, next_known}
use Rattle.sat_trail.proofs.watches.Watches.look.Goals as goal

pub returns-then-is_open-clause-grows : goal.returns-then-is_open-clause-grows
returns-then-is_open-clause-grows c = record {
  propagates = propagates_none c.args.stack.now;
  watched = watched_released c.args.stack.now c.args.self.now c.release.new.self c.index.result.now.clause
      c.requires.ready.watched (next_waits c.index.ensures c.requires.some) (c.is_open.ensures c.if-is_open.true) c.release.ensures;
}

pub status_of-requires-clause-given : goal.status_of-requires-clause-given
status_of-requires-clause-given c = next_known c.requires.ready.watched (next_waits {w = c.args.self.now} c.index.ensures c.requires.some)

pub force_aside-requires-clause-waits : goal.force_aside-requires-clause-waits
force_aside-requires-clause-waits c = next_waits c.index.ensures c.requires.some

pub open-requires-clause-waits : goal.open-requires-clause-waits
open-requires-clause-waits c = next_waits c.index.ensures c.requires.some
