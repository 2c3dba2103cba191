use Rattle.std.proofs.Common.{take}
use Rattle.std.specs.List.{AllByRecursion}
use Rattle.annotation_check.specs.internal.PairsView.{pairs_tree}
use Rattle.annotation_check.specs.internal.Growth.{GrowsTo, IsMet}
use Rattle.annotation_check.proofs.growing.Pairs.follow.Given as goal

-- the steps so far are met by numbers that grew from the first ones
abbrev pub invariant-loop-step : goal.invariant-loop-step
invariant-loop-step l =
    GrowsTo (pairs_tree l.self) l.fn.growth.numbers.items l.fn.growth.risen.items l.growth.numbers.items l.growth.risen.items
    × AllByRecursion (IsMet (pairs_tree l.self) l.growth.numbers.items l.rise.number) (take l.step-index l.steps)
