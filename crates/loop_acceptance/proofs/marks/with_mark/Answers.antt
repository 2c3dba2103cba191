use Rattle.std.proofs.Common.{◌∙◌, ap, arith}
use Rattle.loop_acceptance.specs.internal.PackedMarks.{number_of, mark_of}
use Rattle.loop_acceptance.proofs.PackedMarks.{bits_below, changed_below, changed_there, changed_elsewhere, number_below, mark_of_number}
use Rattle.loop_acceptance.proofs.marks.with_mark.Goals as goal

pub overflow_sub-cleared : goal.overflow_sub-cleared
overflow_sub-cleared c = rw c.bits_at.ensures (bits_below c.args.byte c.args.place c.requires)

pub overflow_add-result : goal.overflow_add-result
overflow_add-result c =
    let below =
    changed_below c.args.byte (number_of c.args.mark) c.ranges.byte.fits (number_below c.args.mark) c.args.place c.requires in
    rw (c.bits_at.ensures, c.number.ensures) (omega (arith, below))

pub returns-clause-there : goal.returns-clause-there
returns-clause-there c =
    rw (c.bits_at.ensures, c.number.ensures)
    (ap mark_of (changed_there c.args.byte (number_of c.args.mark) c.ranges.byte.fits (number_below c.args.mark) c.args.place c.requires)
    ∙ mark_of_number c.args.mark)

pub returns-clause-others : goal.returns-clause-others
returns-clause-others c = λ other within apart.
    rw (c.bits_at.ensures, c.number.ensures)
    (ap mark_of (changed_elsewhere c.args.byte (number_of c.args.mark) c.ranges.byte.fits (number_below c.args.mark) c.args.place c.requires
    other within apart))
