use Rattle.std.proofs.Common.{arith}
use Rattle.sat_trail.proofs.Soundness.{length_entries}
use Rattle.clause_learning.proofs.SeenEntries.{place_within}
use Rattle.clause_learning.proofs.seen.Seen.is_covered.Goals as goal

pub is_seen-requires : goal.is_seen-requires
is_seen-requires c =
    let t = c.args.trail.now in
    let p = place_within t.entries c.variable.result c.args.literal.index c.in-Some.place c.variable.ensures.value c.in-Some.ensures in
    omega (arith, p.1, length_entries t.variables t.clauses t.entries c.requires.trail.sound.stand, c.requires.seen.one_each)

pub level_at-requires-clause-within : goal.level_at-requires-clause-within
level_at-requires-clause-within c = (place_within c.args.trail.now.entries c.variable.result c.args.literal.index c.in-Some.place
    c.variable.ensures.value c.in-Some.ensures).1
