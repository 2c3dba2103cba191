use Rattle.std.proofs.Common.{ℕ, arith}
use Rattle.letter_space.specs.SpaceView.{space_tree}
use Rattle.machines.specs.MachineView.{environment_tree}
use Rattle.branch_finder.specs.internal.Paths.{IsSeen}
use Rattle.branch_finder.proofs.LoopFacts.{none_more}
use Rattle.branch_finder.proofs.looking.seen_pair.Goals as goal

pub loop-left_at-preserved : goal.loop-left_at-preserved
loop-left_at-preserved c left_at left right below seen =
    let look = c.args.look.now in
    none_more (λ at. (l : ℕ) × (r : ℕ) × IsSeen (space_tree look.walk.search.space.now) (environment_tree look.walk.search.environment.now)
    look.walk.search.cells.now look.walk.search.equality look.walk.search.mask look.walk.path.now look.walk.prints.now
    (record { left_at = at; left = l; right = r })) c.loop-left_at.left_at
    (λ at earlier some. c.loop-left_at.invariant at some.0 some.1 earlier some.2)
    (λ some. (rw c.in_default.is at c.in_ok-pair.ensures.none) some.0 some.1 some.2) left_at below (left, right, seen)

pub returns-clause-none : goal.returns-clause-none
returns-clause-none c left_at left right seen =
    c.loop-left_at.invariant left_at left right (omega (arith, seen.within, c.loop-left_at-test.false)) seen
