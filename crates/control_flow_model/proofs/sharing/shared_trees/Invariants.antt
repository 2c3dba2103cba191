use Rattle.std.proofs.Common.{take}
use Rattle.letter_space.specs.SpaceView.{space_tree}
use Rattle.machines.specs.MachineView.{controller_tree}
use Rattle.control_flow_model.specs.internal.Parts.{part_keys, AreShared}
use Rattle.control_flow_model.proofs.sharing.shared_trees.Given as goal

-- the trees of the states gone through
abbrev pub invariant-loop-state : goal.invariant-loop-state
invariant-loop-state l =
    AreShared (space_tree l.space) (controller_tree l.controller) (take l.state-index l.kept) (part_keys l.parts.keys) l.roots.items
