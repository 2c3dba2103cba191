-- The verdict on a node that lacks bits.
use Rattle.std.specs.Prelude.{◌≡◌, ℕ, not, List, Some, slice_get, position}
use Rattle.program_tree.specs.NodeTree.{NodeTree, branch, assign}
use Rattle.letter_space.specs.SpaceTree.{SpaceTree}
use Rattle.control_flow_model.specs.ProgramBits.{node_has_bits}
use Rattle.program_check.specs.declared.verdict.Verdict.{Verdict}
use Rattle.program_check.specs.declared.verdict.Verdict.TheVariants.{Test, Choice}

abbrev pub node_verdict : NodeTree → ℕ → Verdict
node_verdict (branch t then_node else_node) i = Test i
node_verdict (assign ts go) i = Choice i

-- it is that on the first node that lacks bits
pub record IsNodeVerdict (space : SpaceTree) (nodes : List NodeTree) (verdict : Verdict) : Type 0 where
  pub place : ℕ
  pub first : position (λ n. not (node_has_bits space n)) nodes ≡ Some place
  pub node : NodeTree
  pub there : slice_get nodes place ≡ Some node
  pub is : verdict ≡ node_verdict node place
