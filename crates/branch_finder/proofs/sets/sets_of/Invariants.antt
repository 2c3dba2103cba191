use Rattle.letter_space.specs.SpaceView.{space_tree}
use Rattle.branch_finder.specs.internal.Sets.{AreSets}
use Rattle.branch_finder.proofs.sets.sets_of.Given as goal

-- those of the vectors gone through
abbrev pub invariant-loop-vector : goal.invariant-loop-vector
invariant-loop-vector l = AreSets (space_tree l.space) l.cells l.vector l.sets.sets.items l.sets.firsts.items
