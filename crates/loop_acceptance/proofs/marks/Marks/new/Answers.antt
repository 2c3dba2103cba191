use Rattle.std.proofs.Common.{◌*◌, ◌/◌, ◌+◌, ◌≤◌, arith}
use Rattle.loop_acceptance.specs.internal.PackedMarks.{room_for}
use Rattle.loop_acceptance.proofs.PackedMarks.{all_marks_new}
use Rattle.loop_acceptance.proofs.marks.Marks.new.Goals as goal

pub returns : goal.returns
returns c =
    let states = c.args.pairing.states in
    let many = (c.args.count / states / 16 + 1) * states * 4 in
    let room : room_for states c.args.count ≤ 4 * many = omega arith in
    all_marks_new states c.args.pairing.some c.args.count many c.in_ok-vec.field-0.items room
    (c.in_ok-vec.ensures.items_if_clones_equal (λ y e. e))
