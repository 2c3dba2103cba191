use Rattle.std.proofs.Common.{ap, subst, slice_get, ◌∙◌}
use Rattle.sat_trail.specs.States.{TrailState}
use Rattle.sat_trail.specs.internal.Watching.{SetsAside}
use Rattle.sat_trail.proofs.Stays.{watched_propagated}
use Rattle.sat_trail.proofs.Waiting.{watched_aside, less_aside, waits_still, next_within}
use Rattle.sat_trail.proofs.watches.Watches.force_aside.Goals as goal

pub set_aside-requires : goal.set_aside-requires
set_aside-requires c = next_within (waits_still c.in_ok-watch_last.ensures c.requires.waits)

pub returns-clause-grows : goal.returns-clause-grows
returns-clause-grows c =
    let t = c.args.stack.now in
    let u = c.force.new.stack in
    let w = c.watch_last.new.self in
    let v = c.set_aside.new.self in
    let grows = c.in_ok-force.ensures.ok in
    let forced = c.requires.unit.force in
    let kept = c.in_ok-watch_last.ensures in record {
      propagates = grows;
      watched = watched_aside u w v c.args.number forced.clause c.args.literal c.force.ensures.sound
          (watched_propagated t u w kept.watched grows) (waits_still kept c.requires.waits)
          (ap (λ (s : TrailState). slice_get s.clauses c.args.number) grows.rest_stays ∙ forced.named) forced.member
          c.in_ok-force.ensures.is_true (subst (λ n. SetsAside n w v) c.level.ensures.value c.set_aside.ensures);
    }

pub returns-clause-ends : goal.returns-clause-ends
returns-clause-ends c = less_aside c.in_ok-watch_last.ensures c.requires.waits c.set_aside.ensures
