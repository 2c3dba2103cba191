use Rattle.std.proofs.Common.{◌∙◌, sym}
use Rattle.sat_trail.proofs.Looks.{force_over, force_stands}
use Rattle.sat_trail.proofs.watches.force.Goals as goal

pub is_true-requires : goal.is_true-requires
is_true-requires c = force_over c.args.stack.now c.requires.sound c.args.number c.args.literal c.requires.unit.force

pub set-requires : goal.set-requires
set-requires c = force_stands c.args.stack.now c.requires.sound c.args.number c.args.literal c.level-level.result c.requires.unit.force
    c.requires.unit.free (sym c.is_true.ensures ∙ c.if-is_true.false) c.level-level.ensures.value
