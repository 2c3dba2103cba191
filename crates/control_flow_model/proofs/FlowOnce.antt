-- The program of a controller repeats no node, no test of it leads to one node on both sides, and a controller has one program.
use Rattle.std.proofs.Common.{◌≡◌, ◌∙◌, ℕ, zero, suc, ◌+◌, ◌^◌, ◌<◌, ◌≤◌, Bool, true, false, cond, List, [], ◌∷◌, ◌++◌, map, flat_map}
use Rattle.std.proofs.Common.{Option, Some, slice_get, length, sym, ap, refl, subst, arith}
use Rattle.std.specs.List.{AllByRecursion}
use Rattle.std.proofs.lemmas.Bool.{false≢true}
use Rattle.std.proofs.lemmas.Option.{none-some, same_Some}
use Rattle.base_library.proofs.Each.{each_at, each_flat_map, each_from_places, each_joined}
use Rattle.base_library.proofs.Lists.{heads, tails}
use Rattle.base_library.proofs.Options.{some_mapped}
use Rattle.base_library.proofs.Places.{contains_at, slice_get_one}
use Rattle.tsl_terms.specs.Laws.{IsRising}
use Rattle.tsl_terms.specs.TermTree.{ProbeTree}
use Rattle.tsl_terms.specs.WindowTree.{WindowTree}
use Rattle.program_tree.specs.NodeTree.{NodeTree, branch, assign}
use Rattle.program_tree.specs.ProgramTree.{ProgramTree}
use Rattle.letter_space.specs.SpaceTree.{SpaceTree, IsSpace}
use Rattle.base_library.specs.Once.{StandOnce}
use Rattle.machines.specs.MachineTree.{EntryTree, ControllerTree, controller_entry}
use Rattle.control_flow_model.specs.DecisionTree.{DecisionTree, leaf, fork, same_decision, decision_tree, subtrees}
use Rattle.control_flow_model.specs.Flow.{AreKept, state_tree, shared_trees, node_number, node_for, IsFlowOf}
use Rattle.control_flow_model.proofs.FlowLemmas.{image_of, place_contained, node_at, assignment_of, test_of}
use Rattle.control_flow_model.proofs.NewMembers.{each_new}
use Rattle.control_flow_model.proofs.OneController.{one_pick}
use Rattle.control_flow_model.proofs.PartLemmas.{kept_once}
use Rattle.control_flow_model.proofs.TreeLists.{decision_itself, branches_of}

-- ---- the branches of a fork are two trees

abbrev pub HasTwoBranches : DecisionTree → Type 0
HasTwoBranches (leaf e) = Unit {0}
HasTwoBranches (fork bit a b) = a ≡ b → ⊥

subtrees_apart : (entries : ℕ → Option EntryTree) (count bit valuation : ℕ) (d : DecisionTree) →
    decision_tree entries count bit valuation ≡ Some d → AllByRecursion HasTwoBranches (subtrees d)
subtrees_apart entries zero bit valuation d is =
    let end = some_mapped leaf (entries valuation) d is in
    subst (λ t. AllByRecursion HasTwoBranches (subtrees t)) end.2 (tt, tt)
subtrees_apart entries (suc count) bit valuation d is =
    let branches = branches_of entries count bit valuation d is in
    let left = subtrees_apart entries count (suc bit) (valuation + 2 ^ bit) branches.yes_tree branches.is_yes in
    let right = subtrees_apart entries count (suc bit) valuation branches.no_tree branches.is_no in
    subst (λ t. AllByRecursion HasTwoBranches (subtrees t)) branches.all
    (by branches.yes_tree branches.no_tree (same_decision branches.yes_tree branches.no_tree) refl left right)
  where
    by : (a b : DecisionTree) (same : Bool) → same_decision a b ≡ same → AllByRecursion HasTwoBranches (subtrees a) →
        AllByRecursion HasTwoBranches (subtrees b) → AllByRecursion HasTwoBranches (subtrees (cond same a (fork bit a b)))
    by a b true equal left right = left
    by a b false differ left right =
        each_joined HasTwoBranches (subtrees a) (subtrees b ++ fork bit a b ∷ []) left
        (each_joined HasTwoBranches (subtrees b) (fork bit a b ∷ []) right (
          (λ equal.
              let same : same_decision a b ≡ true = subst (λ t. same_decision a t ≡ true) equal (decision_itself a) in
              absurd (false≢true (sym differ ∙ same))),
          tt,
        ))

module _ (c : ControllerTree) (space : SpaceTree) (inputs cells outputs : List ℕ) (windows : List WindowTree) (program : ProgramTree)
    (flow : IsFlowOf c space inputs cells outputs windows program) where
  abbrev shared : List DecisionTree
  shared = shared_trees flow.trees

  shared_apart : (n : ℕ) (d : DecisionTree) → slice_get shared n ≡ Some d → HasTwoBranches d
  shared_apart =
      each_new same_decision HasTwoBranches [] (flat_map subtrees flow.trees) (λ i t none. absurd (none-some t none))
      (λ j t there. each_at HasTwoBranches (flat_map subtrees flow.trees) j t
      (each_flat_map HasTwoBranches subtrees flow.trees (each_from_places _ flow.trees (λ i tree stands.
      let state = image_of (state_tree space c) flow.kept flow.trees flow.are_trees i tree stands in
      subtrees_apart (controller_entry c state.0) (length space.predicates) 0 0 tree state.2))) there)

  tree_of_node : (i : ℕ) (node : NodeTree) → slice_get program.nodes i ≡ Some node →
      (d : DecisionTree) × (slice_get shared i ≡ Some d) × (node_for space flow.kept shared d ≡ Some node)
  tree_of_node i node at = image_of (node_for space flow.kept shared) shared program.nodes flow.has_nodes i node at

  pub tests_choose : (i m n : ℕ) (t : ProbeTree) → slice_get program.nodes i ≡ Some (branch t m n) → m ≡ n → ⊥
  tests_choose i m n t at equal =
      let tree = tree_of_node i (branch t m n) at in
      by tree.0 tree.2 (shared_apart i tree.0 tree.1)
    where
      by : (d : DecisionTree) → node_for space flow.kept shared d ≡ Some (branch t m n) → HasTwoBranches d → ⊥
      by (leaf e) is apart =
          let assigns = assignment_of c space inputs cells outputs windows program flow e (branch t m n) is in
          let never : assign assigns.terms assigns.go ≡ branch t m n = assigns.all in
          cc
      by (fork bit a b) is apart =
          let tests = test_of c space inputs cells outputs windows program flow bit a b (branch t m n) is in
          let all : branch tests.probe tests.yes_node tests.no_node ≡ branch t m n = tests.all in
          let lefts : tests.yes_node ≡ m = cc in
          let rights : tests.no_node ≡ n = cc in
          let numbers : tests.yes_node ≡ tests.no_node = lefts ∙ equal ∙ sym rights in
          let left = node_at shared a tests.yes_node tests.yes_is in
          let right = node_at shared b tests.no_node tests.no_is in
          apart (slice_get_one shared tests.yes_node a b left.0 (ap (slice_get shared) numbers ∙ right.0))

  -- ---- equal nodes are of one tree

  module _ (is_space : IsSpace space) where
    one_tree_each : (d x : DecisionTree) (node : NodeTree) → node_for space flow.kept shared d ≡ Some node →
        node_for space flow.kept shared x ≡ Some node → d ≡ x
    one_tree_each (leaf e) (leaf f) node is also =
        let first = assignment_of c space inputs cells outputs windows program flow e node is in
        let second = assignment_of c space inputs cells outputs windows program flow f node also in
        let all : assign first.terms first.go ≡ assign second.terms second.go = first.all ∙ sym second.all in
        let terms : first.terms ≡ second.terms = cc in
        let goes : first.go ≡ second.go = cc in
        let choices = one_pick space.controlled is_space.choices_once e.choices f.choices first.terms second.terms terms first.picked
        second.picked in
        let next : e.next ≡ f.next = slice_get_one flow.kept first.go e.next f.next first.goes
        (ap (slice_get flow.kept) goes ∙ second.goes) in
        λ z. leaf (record { choices = choices z; next = next z })
    one_tree_each (leaf e) (fork bit a b) node is also =
        let first = assignment_of c space inputs cells outputs windows program flow e node is in
        let second = test_of c space inputs cells outputs windows program flow bit a b node also in
        let never : assign first.terms first.go ≡ branch second.probe second.yes_node second.no_node = first.all ∙ sym second.all in
        absurd cc
    one_tree_each (fork bit a b) (leaf f) node is also =
        let first = test_of c space inputs cells outputs windows program flow bit a b node is in
        let second = assignment_of c space inputs cells outputs windows program flow f node also in
        let never : branch first.probe first.yes_node first.no_node ≡ assign second.terms second.go = first.all ∙ sym second.all in
        absurd cc
    one_tree_each (fork bit a b) (fork other x y) node is also =
        let first = test_of c space inputs cells outputs windows program flow bit a b node is in
        let second = test_of c space inputs cells outputs windows program flow other x y node also in
        let all : branch first.probe first.yes_node first.no_node ≡ branch second.probe second.yes_node second.no_node =
        first.all ∙ sym second.all in
        let probes : first.probe ≡ second.probe = cc in
        let lefts : first.yes_node ≡ second.yes_node = cc in
        let rights : first.no_node ≡ second.no_node = cc in
        let bits = is_space.predicates_once bit other second.probe (first.probe_there ∙ ap Some probes) second.probe_there in
        let left = slice_get_one shared first.yes_node a x (node_at shared a first.yes_node first.yes_is).0
        (ap (slice_get shared) lefts ∙ (node_at shared x second.yes_node second.yes_is).0) in
        let right = slice_get_one shared first.no_node b y (node_at shared b first.no_node first.no_is).0
        (ap (slice_get shared) rights ∙ (node_at shared y second.no_node second.no_is).0) in
        λ z. fork (bits z) (left z) (right z)

    pub nodes_once : StandOnce program.nodes
    nodes_once i j node at too =
        let first = tree_of_node i node at in
        let second = tree_of_node j node too in
        kept_once (flat_map subtrees flow.trees) i j second.0
        (first.1 ∙ ap Some (one_tree_each first.0 second.0 node first.2 second.2)) second.1

-- ---- one program

-- rising lists of the same members are one list
rising_tail : (n : ℕ) (ns : List ℕ) → IsRising (n ∷ ns) → IsRising ns
rising_tail n ns rise i j x y less at_i at_j = rise (suc i) (suc j) x y (omega (arith, less)) at_i at_j

not_first : (n x : ℕ) (ns : List ℕ) → IsRising (n ∷ ns) → (i : ℕ) → slice_get ns i ≡ Some x → n < x
not_first n x ns rise i at = rise 0 (suc i) n x (omega arith) refl at

not_less : (n x : ℕ) (ns : List ℕ) → IsRising (n ∷ ns) → (i : ℕ) → slice_get (n ∷ ns) i ≡ Some x → n ≤ x
not_less n x ns rise zero at = let same = same_Some n x at in omega (arith, same)
not_less n x ns rise (suc i) at = omega (arith, not_first n x ns rise i at)

abbrev StandIn : List ℕ → List ℕ → Type 0
StandIn ns ms = (i n : ℕ) → slice_get ns i ≡ Some n → (j : ℕ) × (slice_get ms j ≡ Some n)

rest_stands : (n m : ℕ) (ns ms : List ℕ) → n ≡ m → IsRising (n ∷ ns) → StandIn (n ∷ ns) (m ∷ ms) → StandIn ns ms
rest_stands n m ns ms same rise stand i x at =
    let place = stand (suc i) x at in
    by place.0 place.1
  where
    by : (j : ℕ) → slice_get (m ∷ ms) j ≡ Some x → (k : ℕ) × (slice_get ms k ≡ Some x)
    by zero there =
        let equal = same_Some m x there in
        let larger = not_first n x ns rise i at in
        absurd (omega (arith, same, equal, larger))
    by (suc j) there = (j, there)

one_rising : (ns ms : List ℕ) → IsRising ns → IsRising ms → StandIn ns ms → StandIn ms ns → ns ≡ ms
one_rising [] [] rise_n rise_m first second = refl
one_rising [] (m ∷ ms) rise_n rise_m first second = let place = second 0 m refl in absurd (none-some m place.1)
one_rising (n ∷ ns) [] rise_n rise_m first second = let place = first 0 n refl in absurd (none-some n place.1)
one_rising (n ∷ ns) (m ∷ ms) rise_n rise_m first second =
    let left = first 0 n refl in
    let right = second 0 m refl in
    let same : n ≡ m = omega (arith, not_less m n ms rise_m left.0 left.1, not_less n m ns rise_n right.0 right.1) in
    let rest = one_rising ns ms (rising_tail n ns rise_n) (rising_tail m ms rise_m) (rest_stands n m ns ms same rise_n first)
    (rest_stands m n ms ns (sym same) rise_m second) in
    λ z. same z ∷ rest z

one_kept : (c : ControllerTree) (k l : List ℕ) → AreKept c k → AreKept c l → k ≡ l
one_kept c k l first second = one_rising k l first.rise second.rise (stand k l first second) (stand l k second first)
  where
    stand : (ns ms : List ℕ) → AreKept c ns → AreKept c ms → StandIn ns ms
    stand ns ms here there i n at =
        place_contained ms n ((there.reachable n).1 ((here.reachable n).0 (contains_at ns i n at)))

unwrapped : {X : Type 0} (xs ys : List X) → map Some xs ≡ map Some ys → xs ≡ ys
unwrapped [] [] same = refl
unwrapped [] (y ∷ ys) same = absurd cc
unwrapped (x ∷ xs) [] same = absurd cc
unwrapped (x ∷ xs) (y ∷ ys) same =
    let first : x ≡ y = λ z. same_Some x y (heads (Some x) (Some y) (map Some xs) (map Some ys) same) z in
    let rest = unwrapped xs ys (tails (Some x) (Some y) (map Some xs) (map Some ys) same) in
    λ z. first z ∷ rest z

pub one_flow : (c : ControllerTree) (space : SpaceTree) (inputs cells outputs : List ℕ) (windows : List WindowTree)
    (p q : ProgramTree) → IsFlowOf c space inputs cells outputs windows p → IsFlowOf c space inputs cells outputs windows q → p ≡ q
one_flow c space inputs cells outputs windows p q first second =
    let kept = one_kept c first.kept second.kept first.are_kept second.are_kept in
    let trees = unwrapped first.trees second.trees
    (sym first.are_trees ∙ ap (map (state_tree space c)) kept ∙ second.are_trees) in
    let nodes = unwrapped p.nodes q.nodes
    (sym first.has_nodes ∙ (λ z. map (node_for space (kept z) (shared_trees (trees z))) (shared_trees (trees z))) ∙ second.has_nodes) in
    let states = unwrapped p.states q.states
    (sym first.has_states ∙ (λ z. map (node_number (shared_trees (trees z))) (trees z)) ∙ second.has_states) in
    let ins = first.has_inputs ∙ sym second.has_inputs in
    let holds = first.has_cells ∙ sym second.has_cells in
    let outs = first.has_outputs ∙ sym second.has_outputs in
    let seen = first.has_windows ∙ sym second.has_windows in
    λ z. record { inputs = ins z; cells = holds z; outputs = outs z; windows = seen z; nodes = nodes z; states = states z }
