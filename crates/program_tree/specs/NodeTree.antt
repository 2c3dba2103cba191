-- Nodes as pure trees, without where they lie in memory.
use Rattle.std.specs.Prelude.{ℕ, List, map}
use Rattle.tsl_terms.specs.TermTree.{TermTree, ProbeTree, term_tree, probe_tree}
use Rattle.program_tree.specs.declared.node.Node.{Node}
use Rattle.program_tree.specs.declared.node.Node.TheVariants.{If, Set}

-- a test with the nodes to go to where it is true and where it is not; or one term for each cell and
-- then each output, with the state to go to
pub data NodeTree : Type 0 where
  branch : ProbeTree → ℕ → ℕ → NodeTree
  assign : List TermTree → ℕ → NodeTree

abbrev pub node_tree : Node → NodeTree
node_tree (If test then_node else_node) = branch (probe_tree test) then_node else_node
node_tree (Set updates go) = assign (map term_tree updates) go
