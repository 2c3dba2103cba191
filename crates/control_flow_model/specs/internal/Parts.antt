-- Internal: only private functions of this crate use these words. Trees over numbers: the parts of trees are numbered, and a fork names
-- the numbers of its branches.
use Rattle.std.specs.Prelude.{◌≡◌, ℕ, ◌==◌, Bool, false, ◌&&◌, List, [], ◌++◌, map, length, Some, slice_get}
use Rattle.base_library.specs.Kept.{with_new}
use Rattle.letter_space.specs.SpaceTree.{SpaceTree}
use Rattle.machines.specs.MachineTree.{EntryTree, ControllerTree, controller_entry}
use Rattle.control_flow_model.specs.declared.parting.Part.{Part}
use Rattle.control_flow_model.specs.declared.parting.Part.TheVariants.{Leaf, Fork}
use Rattle.control_flow_model.specs.DecisionTree.{DecisionTree, leaf, fork, same_entry, same_decision, decision_tree, subtrees}
use Rattle.control_flow_model.specs.Flow.{state_tree, shared_trees}

-- a part over numbers
pub data PartKey : Type 0 where
  leaf_key : EntryTree → PartKey
  fork_key : ℕ → ℕ → ℕ → PartKey

abbrev pub part_key : Part → PartKey
part_key (Leaf choices next) = leaf_key (record { choices = choices.items; next = next })
part_key (Fork bit then_part else_part) = fork_key bit then_part else_part

abbrev pub part_keys : List Part → List PartKey
part_keys ps = map part_key ps

abbrev pub same_key : PartKey → PartKey → Bool
same_key (leaf_key e) (leaf_key f) = same_entry e f
same_key (fork_key n i j) (fork_key m k l) = (n == m) && ((i == k) && (j == l))
same_key (leaf_key e) (fork_key m k l) = false
same_key (fork_key n i j) (leaf_key f) = false

-- the trees that are kept of these, each once
abbrev pub kept_trees : List DecisionTree → List DecisionTree
kept_trees done = with_new same_decision [] done

-- a part is that of a tree, where the trees with numbers are these
abbrev pub IsKeyOf : List DecisionTree → DecisionTree → PartKey → Type 0
IsKeyOf trees (leaf e) key = key ≡ leaf_key e
IsKeyOf trees (fork bit a b) key =
    (i : ℕ) × (j : ℕ) × (slice_get trees i ≡ Some a) × (slice_get trees j ≡ Some b) × (key ≡ fork_key bit i j)

-- parts are those of trees, in their order
pub record AreKeysOf (trees : List DecisionTree) (keys : List PartKey) : Type 0 where
  pub count : length keys ≡ length trees
  pub each : (n : ℕ) (d : DecisionTree) → slice_get trees n ≡ Some d → (key : PartKey) × (slice_get keys n ≡ Some key) × IsKeyOf trees d key

-- parts with those of one more tree, which has this number
pub record AddsTree (old new : List PartKey) (d : DecisionTree) (number : ℕ) : Type 0 where
  pub keys : (done : List DecisionTree) → AreKeysOf (kept_trees done) old → AreKeysOf (kept_trees (done ++ subtrees d)) new
  pub there : (done : List DecisionTree) → AreKeysOf (kept_trees done) old →
      slice_get (kept_trees (done ++ subtrees d)) number ≡ Some d

-- the same for the tree that tests so many bits from one on
pub record AddsDecision (c : ControllerTree) (state count bit valuation : ℕ) (old new : List PartKey) (number : ℕ) : Type 0 where
  pub tree : DecisionTree
  pub is_tree : decision_tree (controller_entry c state) count bit valuation ≡ Some tree
  pub adds : AddsTree old new tree number

-- The parts of the trees of states, and the number of each state's tree.
pub record AreShared (space : SpaceTree) (c : ControllerTree) (kept : List ℕ) (keys : List PartKey) (roots : List ℕ) : Type 0 where
  pub trees : List DecisionTree
  pub are_trees : map (state_tree space c) kept ≡ map Some trees
  pub are_keys : AreKeysOf (shared_trees trees) keys
  pub are_roots : map (slice_get (shared_trees trees)) roots ≡ map Some trees
