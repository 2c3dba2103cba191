use Rattle.std.proofs.Common.{take}
use Rattle.std.specs.List.{AllByRecursion}
use Rattle.full_bound.specs.internal.Search.{steps_from}
use Rattle.full_bound.specs.internal.Turning.{NeverBack}
use Rattle.full_bound.proofs.turning.return_to.Given as goal

abbrev pub invariant-loop-step : goal.invariant-loop-step
invariant-loop-step l = AllByRecursion (NeverBack (steps_from l.table) l.node) (take l.step-index l.steps)
