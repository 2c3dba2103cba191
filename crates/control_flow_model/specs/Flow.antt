-- The program of a controller: a state for each reachable state of the controller, and for each of these a reduced decision tree
-- over the predicate bits. Equal trees are one node. In which order states and nodes stand is this project's own rule.
use Rattle.std.specs.Prelude.{◌≡◌, ℕ, ◌==◌, List, [], map, flat_map, length, Option, Some, slice_get, option_map, option_and_then, position}
use Rattle.std.specs.Prelude.{◌↔◌, Contains, IsTrue}
use Rattle.std.specs.List.{list_all, AllByRecursion}
use Rattle.base_library.specs.Kept.{with_new}
use Rattle.tsl_terms.specs.Laws.{IsRising}
use Rattle.tsl_terms.specs.OnlyThese.{reads_only, read_only}
use Rattle.tsl_terms.specs.WindowTree.{WindowTree}
use Rattle.program_tree.specs.NodeTree.{NodeTree, branch, assign}
use Rattle.program_tree.specs.ProgramTree.{ProgramTree}
use Rattle.letter_space.specs.SpaceTree.{SpaceTree}
use Rattle.machines.specs.MachineTree.{EntryTree, ControllerTree, controller_entry}
use Rattle.control_flow_model.specs.ControllerOf.{terms_picked}
use Rattle.control_flow_model.specs.DecisionTree.{DecisionTree, leaf, fork, same_decision, decision_tree, subtrees}

-- the states that a controller reaches from state 0 over all valuations
pub data IsReachable (c : ControllerTree) : ℕ → Type 0 where
  at_start : IsReachable c 0
  by_entry : (s v : ℕ) (e : EntryTree) → IsReachable c s → controller_entry c s v ≡ Some e → IsReachable c e.next

-- the reachable states by rising number: a program's state is the place of the controller's state in this list
pub record AreKept (c : ControllerTree) (kept : List ℕ) : Type 0 where
  pub rise : IsRising kept
  pub reachable : (s : ℕ) → Contains kept s ↔ IsReachable c s

-- the decision tree of a state
abbrev pub state_tree : SpaceTree → ControllerTree → ℕ → Option DecisionTree
state_tree space c s = decision_tree (controller_entry c s) (length space.predicates) 0 0

-- the trees that become nodes: those that trees are made of, each once, in the order in which they first appear
abbrev pub shared_trees : List DecisionTree → List DecisionTree
shared_trees trees = with_new same_decision [] (flat_map subtrees trees)

-- the number of a tree's node
abbrev pub node_number : List DecisionTree → DecisionTree → Option ℕ
node_number shared d = position (same_decision d) shared

-- The node of a tree. A fork tests its bit's predicate term and names the nodes of its branches; a leaf assigns the terms that its
-- choices stand for, and goes to its next state by the new number.
abbrev pub node_for : SpaceTree → List ℕ → List DecisionTree → DecisionTree → Option NodeTree
node_for space kept shared (leaf e) =
    option_and_then (λ ts. option_map (assign ts) (position (λ s. s == e.next) kept)) (terms_picked space.controlled e.choices)
node_for space kept shared (fork bit a b) =
    option_and_then (λ p. option_and_then (λ i. option_map (branch p i) (node_number shared b)) (node_number shared a))
    (slice_get space.predicates bit)

-- A program is that of a controller over the bits of a space, for these inputs, cells, outputs and windows.
pub record IsFlowOf (c : ControllerTree) (space : SpaceTree) (inputs cells outputs : List ℕ) (windows : List WindowTree)
    (program : ProgramTree) : Type 0 where
  pub has_inputs : program.inputs ≡ inputs
  pub has_cells : program.cells ≡ cells
  pub has_outputs : program.outputs ≡ outputs
  pub has_windows : program.windows ≡ windows
  pub kept : List ℕ
  pub are_kept : AreKept c kept
  pub trees : List DecisionTree
  pub are_trees : map (state_tree space c) kept ≡ map Some trees
  pub has_nodes : map (node_for space kept (shared_trees trees)) (shared_trees trees) ≡ map Some program.nodes
  pub has_states : map (node_number (shared_trees trees)) trees ≡ map Some program.states

-- the predicate terms and the choices of a space read these signals only
pub record SpaceReadsOnly (readable : List ℕ) (space : SpaceTree) : Type 0 where
  pub tests : IsTrue (list_all (λ p. read_only readable p.arguments) space.predicates)
  pub choices : AllByRecursion (λ c. IsTrue (list_all (reads_only readable) c.choices)) space.controlled
