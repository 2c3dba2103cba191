use Rattle.annotation_check.specs.internal.PairsView.{pairs_tree}
use Rattle.annotation_check.specs.internal.Growth.{IsOnTheWay, AreKept, work_left}
use Rattle.annotation_check.proofs.growing.Pairs.least_numbers.Given as goal

abbrev pub invariant-loop-rise : goal.invariant-loop-rise
invariant-loop-rise l =
    IsOnTheWay (pairs_tree l.self) l.growth.numbers.items l.growth.risen.items × AreKept (pairs_tree l.self) l.kept.of_pairs.items

abbrev pub decreases-loop-rise : goal.decreases-loop-rise
decreases-loop-rise l = work_left l.self.bound l.growth.numbers.items l.growth.risen.items
