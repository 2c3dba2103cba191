-- Reduced decision trees over the predicate bits, at whose ends stand the entries of a controller.
-- Source: Bryant: Graph-Based Algorithms for Boolean Function Manipulation (IEEE Transactions on Computers, 1986), reduced graphs.
use Rattle.std.specs.Prelude.{ℕ, zero, suc, ◌+◌, ◌^◌, ◌==◌, Bool, false, ◌&&◌, List, [], ◌∷◌, ◌++◌, Option, option_map, option_and_then}
use Rattle.std.specs.Prelude.{bytes_eq, if◌then◌else◌}
use Rattle.machines.specs.MachineTree.{EntryTree}

-- At a fork the bit with a number is tested: the first tree is for truth 1, the second for truth 0. At a leaf stands an entry.
pub data DecisionTree : Type 0 where
  leaf : EntryTree → DecisionTree
  fork : ℕ → DecisionTree → DecisionTree → DecisionTree

-- entries are the same where they choose the same and go to the same state
abbrev pub same_entry : EntryTree → EntryTree → Bool
same_entry e f = bytes_eq e.choices f.choices && (e.next == f.next)

abbrev pub same_decision : DecisionTree → DecisionTree → Bool
same_decision (leaf e) (leaf f) = same_entry e f
same_decision (fork n a b) (fork m c d) = (n == m) && (same_decision a c && same_decision b d)
same_decision (leaf e) (fork m c d) = false
same_decision (fork n a b) (leaf f) = false

-- a fork, or its branch where both are the same
abbrev pub forked : ℕ → DecisionTree → DecisionTree → DecisionTree
forked bit a b = if same_decision a b then a else fork bit a b

-- The tree that tests so many bits in order, from one on, where the bits before have the truths of a valuation that has none of
-- the others. Its leaves are the entries of the valuations.
abbrev pub decision_tree : (ℕ → Option EntryTree) → ℕ → ℕ → ℕ → Option DecisionTree
decision_tree entries zero bit valuation = option_map leaf (entries valuation)
decision_tree entries (suc count) bit valuation =
    option_and_then (λ a. option_map (forked bit a) (decision_tree entries count (suc bit) valuation))
    (decision_tree entries count (suc bit) (valuation + 2 ^ bit))

-- the trees that a tree is made of, and itself: in post-order, those of the branch for truth 1 first
abbrev pub subtrees : DecisionTree → List DecisionTree
subtrees (leaf e) = leaf e ∷ []
subtrees (fork bit a b) = subtrees a ++ (subtrees b ++ fork bit a b ∷ [])
