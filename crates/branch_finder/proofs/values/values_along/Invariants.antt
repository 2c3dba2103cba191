use Rattle.std.proofs.Common.{◌≡◌, map}
use Rattle.letter_space.specs.SpaceView.{space_tree}
use Rattle.branch_finder.specs.internal.Values.{value_along, AreValues}
use Rattle.branch_finder.proofs.values.values_along.Given as goal

-- the values of cells at the step, and those of the predicate terms at the steps before
abbrev pub invariant-loop-step : goal.invariant-loop-step
invariant-loop-step l = record {
  cells : l.values.items ≡ map (value_along (space_tree l.space) l.cells l.path l.step) l.cells;
  along : AreValues (space_tree l.space) l.cells l.path l.step l.along.items;
}
