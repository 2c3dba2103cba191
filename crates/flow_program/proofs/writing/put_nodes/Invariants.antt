-- What is written and what is left make the whole.
use Rattle.std.proofs.Common.{◌≡◌, ◌++◌, map, drop}
use Rattle.program_tree.specs.NodeTree.{node_tree}
use Rattle.flow_program.specs.ProgramText.{nodes_text}
use Rattle.flow_program.proofs.writing.put_nodes.Given as goal

abbrev pub invariant-loop-number : goal.invariant-loop-number
invariant-loop-number l =
    l.out.items ++ nodes_text l.names l.controlled l.number (map node_tree (drop l.number l.nodes)) ≡ l.fn.out.items
    ++ nodes_text l.names l.controlled 0 (map node_tree l.nodes)
