use Rattle.std.proofs.Common.{◌≡◌, map, take, Some}
use Rattle.program_tree.specs.NodeTree.{node_tree}
use Rattle.letter_space.specs.SpaceView.{space_tree}
use Rattle.control_flow_model.specs.internal.Parts.{part_keys}
use Rattle.control_flow_model.specs.internal.PartNodes.{key_node}
use Rattle.control_flow_model.proofs.noding.nodes_of.Given as goal

-- the nodes of the parts gone through
abbrev pub invariant-loop-part : goal.invariant-loop-part
invariant-loop-part l =
    map (key_node (space_tree l.space) l.kept) (part_keys (take l.part-index l.parts)) ≡ map Some (map node_tree l.nodes.items)
