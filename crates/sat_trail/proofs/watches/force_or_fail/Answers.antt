use Rattle.std.proofs.Common.{sym, ◌∙◌}
use Rattle.sat_trail.proofs.Looks.{force_over, force_fails}
use Rattle.sat_trail.proofs.watches.force_or_fail.Goals as goal

pub is_false-requires : goal.is_false-requires
is_false-requires c = force_over c.args.stack.now c.requires.sound c.args.number c.args.literal c.requires.forced

pub returns-then-is_false-clause-ends : goal.returns-then-is_false-clause-ends
returns-then-is_false-clause-ends c = force_fails c.args.stack.now c.args.number c.args.literal c.requires.forced
    (sym c.is_false.ensures ∙ c.if-is_false.true)
