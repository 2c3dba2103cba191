use Rattle.std.proofs.Common.{◌≡◌, ℕ, ◌+◌, ◌-◌, ◌≤◌, length}
use Rattle.loop_acceptance.specs.declared.marks.Mark.TheVariants.{Red}
use Rattle.loop_acceptance.specs.internal.Graph.{Rejects}
use Rattle.loop_acceptance.specs.internal.Product.{steps_in}
use Rattle.loop_acceptance.specs.internal.Search.{is_done, marks_weight, Is, HasReddened, TurnsTo, AreClosed}
use Rattle.loop_acceptance.proofs.search.Search.turns_back.Given as goal

abbrev pub invariant-loop-place : goal.invariant-loop-place
invariant-loop-place l =
    HasReddened (TurnsTo (steps_in l.product) l.node) l.fn.self.marks l.fn.self.red.items l.self.marks l.self.red.items
    × AreClosed (steps_in l.product) l.self.marks l.self.red.items l.place
    × ((q : ℕ) → Rejects (steps_in l.product) l.node q → Is l.self.marks Red q)
    × (length l.fn.self.red.items ≤ l.place)
    × (l.place ≤ length l.self.red.items)
    × (l.self.frames ≡ l.fn.self.frames)

abbrev pub decreases-loop-place : goal.decreases-loop-place
decreases-loop-place l = marks_weight is_done 1 l.self.marks + length l.self.red.items - l.place
