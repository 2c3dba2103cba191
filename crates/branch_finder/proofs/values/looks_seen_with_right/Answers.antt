use Rattle.std.proofs.Common.{arith}
use Rattle.letter_space.specs.SpaceView.{space_tree}
use Rattle.machines.specs.MachineView.{environment_tree}
use Rattle.branch_finder.proofs.ValueLemmas.{none_looks}
use Rattle.branch_finder.proofs.values.looks_seen_with_right.Goals as goal

pub returns : goal.returns
returns c _ =
    let walk = c.args.walk.now in
    let search = walk.search in
    none_looks (space_tree search.space.now) (environment_tree search.environment.now) search.cells.now search.mask walk.path.now
    walk.prints.now c.args.values.now c.requires.values c.args.right
    (λ place below. c.loop-place.invariant place (omega (arith, below, c.loop-place-test.false)))
