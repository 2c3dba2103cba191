use Rattle.std.specs.Prelude.{map}
use Rattle.program_tree.specs.NodeTree.{node_tree}
use Rattle.program_tree.specs.ProgramView.{program_tree}
use Rattle.program_tree.specs.Walk.{walk}
use Rattle.program_tree.proofs.Walking.{IsOn}
use Rattle.letter_space.specs.SpaceView.{space_tree}
use Rattle.control_flow_model.specs.ControllerOf.{truth_under}
use Rattle.control_flow_model.proofs.controlling.action_under.Given as goal

abbrev pub invariant-loop-node : goal.invariant-loop-node
invariant-loop-node l =
    IsOn (map node_tree l.program.nodes) (truth_under (space_tree l.space) l.valuation)
    (walk (program_tree l.program) (truth_under (space_tree l.space) l.valuation) l.state) l.node

abbrev pub decreases-loop-node : goal.decreases-loop-node
decreases-loop-node l = l.node
