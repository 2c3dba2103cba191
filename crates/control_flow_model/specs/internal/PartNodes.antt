-- Internal: only private functions of this crate use these words. The nodes of parts.
use Rattle.std.specs.Prelude.{◌≡◌, ℕ, ◌<◌, ◌^◌, ◌==◌, List, map, length, Option, Some, slice_get, option_map, option_and_then}
use Rattle.std.specs.Prelude.{position, IsTrue}
use Rattle.base_library.specs.Numbers.{is_among}
use Rattle.program_tree.specs.NodeTree.{NodeTree, branch, assign}
use Rattle.letter_space.specs.SpaceTree.{SpaceTree}
use Rattle.letter_space.specs.Letters.{ArePicks}
use Rattle.machines.specs.MachineTree.{ControllerTree}
use Rattle.control_flow_model.specs.ControllerOf.{terms_picked}
use Rattle.control_flow_model.specs.DecisionTree.{DecisionTree}
use Rattle.control_flow_model.specs.Flow.{AreKept, state_tree, shared_trees, node_number, node_for}
use Rattle.control_flow_model.specs.internal.Parts.{PartKey, leaf_key, fork_key}

-- the node of a part
abbrev pub key_node : SpaceTree → List ℕ → PartKey → Option NodeTree
key_node space kept (leaf_key e) =
    option_and_then (λ ts. option_map (assign ts) (position (λ s. s == e.next) kept)) (terms_picked space.controlled e.choices)
key_node space kept (fork_key bit i j) = option_map (λ p. branch p i j) (slice_get space.predicates bit)

-- a part has a node: its choices are some of the space's, and its next state is kept, or its bit is one of the space's
abbrev pub HasNode : SpaceTree → List ℕ → PartKey → Type 0
HasNode space kept (leaf_key e) = ArePicks space.controlled e.choices × IsTrue (is_among kept e.next)
HasNode space kept (fork_key bit i j) = (bit < length space.predicates) × (i < 2 ^ 32) × (j < 2 ^ 32)

-- what a program of a controller has beside its signals and windows
pub record AreNodesOf (c : ControllerTree) (space : SpaceTree) (nodes : List NodeTree) (states : List ℕ) : Type 0 where
  pub kept : List ℕ
  pub are_kept : AreKept c kept
  pub trees : List DecisionTree
  pub are_trees : map (state_tree space c) kept ≡ map Some trees
  pub has_nodes : map (node_for space kept (shared_trees trees)) (shared_trees trees) ≡ map Some nodes
  pub has_states : map (node_number (shared_trees trees)) trees ≡ map Some states
