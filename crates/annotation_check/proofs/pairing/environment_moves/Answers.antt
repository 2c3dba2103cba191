use Rattle.std.proofs.Common.{◌∙◌, ap, map}
use Rattle.letter_space.specs.SpaceView.{space_tree}
use Rattle.machines.specs.MachineView.{environment_tree, move_tree}
use Rattle.machines.specs.Moves.{environment_moves}
use Rattle.annotation_check.specs.internal.Pairs.{move_lists}
use Rattle.annotation_check.proofs.ListedByState.{listed_more}
use Rattle.annotation_check.proofs.pairing.environment_moves.Goals as goal

pub loop-state-preserved : goal.loop-state-preserved
loop-state-preserved c =
    ap move_lists c.in_ok-push.ensures.items
    ∙ listed_more (λ ms. map move_tree ms.items) (environment_moves (space_tree c.args.space.now) (environment_tree c.args.environment.now))
    c.loop-state.table.items c.in_ok-moves.field-0 c.loop-state.state c.in_ok-moves.ensures c.loop-state.invariant
