use Rattle.std.proofs.Common.{◌≤◌, length}
use Rattle.tsl_terms.specs.WindowTree.{window_tree}
use Rattle.letter_space.specs.SpaceView.{space_tree}
use Rattle.machines.specs.MachineView.{environment_tree}
use Rattle.branch_finder.specs.internal.Thinning.{IsCandidate, AreNeededFrom, AreEqualitiesNeededFrom}
use Rattle.branch_finder.proofs.thinning.with_needed_equalities.Given as goal

-- the updates, and the equalities from this place on, are needed
abbrev pub invariant-loop-place : goal.invariant-loop-place
invariant-loop-place l = record {
  candidate : IsCandidate (space_tree l.search.space.now) (environment_tree l.search.environment.now) l.search.cells.now l.search.equality
      l.fn.found.length (window_tree l.window);
  within : l.place ≤ length l.window.equalities;
  updates : AreNeededFrom l.search.cells.now l.search.equality 0 (window_tree l.window);
  needed : AreEqualitiesNeededFrom l.search.cells.now l.search.equality l.place (window_tree l.window);
}

abbrev pub decreases-loop-place : goal.decreases-loop-place
decreases-loop-place l = l.place
