use Rattle.tsl_terms.specs.Value.{truth}
use Rattle.std.specs.Prelude.{map}
use Rattle.program_tree.specs.NodeTree.{node_tree}
use Rattle.program_tree.specs.ProgramView.{program_tree}
use Rattle.program_tree.specs.Walk.{walk}
use Rattle.interp_core.specs.LeafValue.{leaf_value}
use Rattle.program_tree.proofs.Walking.{IsOn}
use Rattle.table_runner.proofs.acting.action_in.Given as goal

abbrev pub invariant-loop-node : goal.invariant-loop-node
invariant-loop-node g l =
    IsOn (map node_tree l.program.nodes) (truth (g.J.Algebra.meanings l.judge) (leaf_value g.J.Algebra.seen l.leaves))
    (walk (program_tree l.program) (truth (g.J.Algebra.meanings l.judge) (leaf_value g.J.Algebra.seen l.leaves)) l.state)
    l.node

abbrev pub decreases-loop-node : goal.decreases-loop-node
decreases-loop-node g l = l.node
