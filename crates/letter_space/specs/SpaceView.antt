-- The pure value of a space.
use Rattle.letter_space.specs.declared.space.Space.{Space}
use Rattle.letter_space.specs.SpaceTree.{SpaceTree}
use Rattle.letter_space.specs.ControlledView.{space_with}

abbrev pub space_tree : Space → SpaceTree
space_tree space = space_with space.predicates space.controlled
