use Rattle.position_planes.proofs.PositionLemmas.{next_plane}
use Rattle.position_planes.proofs.operators.next_into.Goals as goal

pub returns : goal.returns
returns c = λ a on_old. next_plane c.args.start c.args.round c.requires.goes_on a c.args.plane.now c.shift_into.new.plane
    c.is_set-at_start.result on_old
    c.shift_into.auto.plane c.is_set-at_start.ensures c.shift_into.ensures
