use Rattle.std.proofs.Common.{◌<◌, ℕ, length, arith}
use Rattle.letter_space.specs.SpaceView.{space_tree}
use Rattle.machines.specs.MachineView.{environment_tree}
use Rattle.branch_finder.specs.internal.Differing.{DifferSomewhere}
use Rattle.branch_finder.proofs.LoopFacts.{none_more}
use Rattle.branch_finder.proofs.differing.some_differ.Goals as goal

pub loop-left-preserved : goal.loop-left-preserved
loop-left-preserved c left right below within differ =
    let search = c.args.search.now in
    none_more (λ l. (r : ℕ) × (r < length search.space.now.predicates)
    × DifferSomewhere (space_tree search.space.now) (environment_tree search.environment.now) l r)
    c.loop-left.left (λ l earlier some. c.loop-left.invariant l some.0 earlier some.1 some.2)
    (λ some. c.differs_from_some.ensures c.if-differs_from_some.false some.0 some.1 some.2) left below (right, within, differ)

pub returns : goal.returns
returns c none left right l r differ =
    c.loop-left.invariant left right (omega (arith, l, c.len-left-end.ensures, c.loop-left-test.false)) r differ
