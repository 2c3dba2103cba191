use Rattle.std.proofs.Common.{◌≡◌, map}
use Rattle.base_library.specs.Numbers.{numbers_from}
use Rattle.letter_space.specs.SpaceView.{space_tree}
use Rattle.branch_finder.specs.internal.Sets.{mask_of}
use Rattle.branch_finder.proofs.sets.vector_masks.Given as goal

-- those of the vectors gone through
abbrev pub invariant-loop-vector : goal.invariant-loop-vector
invariant-loop-vector l = l.masks.items ≡ map (mask_of (space_tree l.space)) (numbers_from 0 l.vector)
