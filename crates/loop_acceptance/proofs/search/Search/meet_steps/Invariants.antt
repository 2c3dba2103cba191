use Rattle.std.proofs.Common.{◌≡◌, ℕ, ◌<◌, Some}
use Rattle.loop_acceptance.specs.declared.product.Step.{Step}
use Rattle.loop_acceptance.specs.declared.marks.Mark.TheVariants.{Red}
use Rattle.loop_acceptance.specs.internal.Product.{steps_in}
use Rattle.loop_acceptance.specs.internal.Search.{asked_for, Is, HasReddened, StepsBy}
use Rattle.loop_acceptance.proofs.search.Search.meet_steps.Given as goal

abbrev pub invariant-loop-place : goal.invariant-loop-place
invariant-loop-place l =
    HasReddened (StepsBy (steps_in l.product) l.rejecting_alone l.node) l.fn.self.marks l.fn.self.red.items l.self.marks
    l.self.red.items
    × ((k : ℕ) (s : Step) → k < l.place → asked_for l.rejecting_alone (steps_in l.product l.node k) ≡ Some s →
    Is l.self.marks Red s.to)
    × (l.self.frames ≡ l.fn.self.frames)
