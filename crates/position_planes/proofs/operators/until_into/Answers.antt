use Rattle.position_planes.proofs.PositionLemmas.{until_plane}
use Rattle.position_planes.proofs.operators.until_into.Goals as goal

pub returns : goal.returns
returns c = λ a b on_left on_right. until_plane c.args.start c.args.round c.requires.goes_on a b c.args.left.now c.args.right.now on_left
    on_right
    c.carry_into.new.left c.carried_to-at_start.result c.carry_into.auto.left c.carried_to-at_start.ensures c.carry_into.ensures
