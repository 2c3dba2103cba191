use Rattle.sat_trail.specs.Entries.{literals_of}
use Rattle.sat_trail.specs.internal.Watching.{pair_of}
use Rattle.sat_trail.proofs.Waiting.{watched_released, both_free, less_released, waits_still, next_within}
use Rattle.sat_trail.proofs.watches.Watches.open.Goals as goal

pub watch_both-requires-clause-literals : goal.watch_both-requires-clause-literals
watch_both-requires-clause-literals c = c.requires.open.watch

pub release-requires : goal.release-requires
release-requires c = next_within (waits_still c.in_ok-watch_both.ensures.rest c.requires.waits)

pub returns-clause-watched : goal.returns-clause-watched
returns-clause-watched c =
    let e = c.in_ok-watch_both.ensures in
    watched_released c.args.stack.now c.watch_both.new.self c.release.new.self c.args.number e.rest.watched
    (waits_still e.rest c.requires.waits)
    (record {
      pair = e.pair.pair;
      at = e.pair.at;
      not_false = λ l of. both_free (literals_of c.args.stack.now.entries) (pair_of c.args.first c.args.second c.args.first)
          c.requires.open.first_free c.requires.open.second_free l (e.pair.only l of);
    }) c.release.ensures

pub returns-clause-ends : goal.returns-clause-ends
returns-clause-ends c = less_released c.in_ok-watch_both.ensures.rest c.requires.waits c.release.ensures
