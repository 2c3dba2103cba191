use Rattle.std.proofs.Common.{arith}
use Rattle.letter_space.specs.SpaceView.{space_tree}
use Rattle.machines.specs.MachineView.{environment_tree}
use Rattle.branch_finder.specs.internal.Differing.{DifferSomewhere}
use Rattle.branch_finder.proofs.LoopFacts.{none_more}
use Rattle.branch_finder.proofs.differing.differs_from_some.Goals as goal

pub loop-right-preserved : goal.loop-right-preserved
loop-right-preserved c =
    let search = c.args.search.now in
    none_more (DifferSomewhere (space_tree search.space.now) (environment_tree search.environment.now) c.args.left)
    c.loop-right.right c.loop-right.invariant
    (c.differ_somewhere.ensures c.if-differ_somewhere.false)

pub returns : goal.returns
returns c none right within differ =
    c.loop-right.invariant right (omega (arith, within, c.len-right-end.ensures, c.loop-right-test.false)) differ
