-- The program of a controller keeps what every program keeps.
use Rattle.std.proofs.Common.{◌≡◌, ◌∙◌, ℕ, ◌+◌, ◌<◌, true, List, [], ◌∷◌, ◌++◌, length, map, Some, slice_get}
use Rattle.std.proofs.Common.{sym, ap, refl, subst, arith, length-append}
use Rattle.std.specs.Prelude.{IsTrue}
use Rattle.std.specs.List.{list_all, AllByRecursion}
use Rattle.std.proofs.lemmas.Bool.{and_from}
use Rattle.std.proofs.lemmas.List.{length-map}
use Rattle.std.proofs.lemmas.Option.{none-some, same_Some, slice_get_within}
use Rattle.base_library.proofs.Passes.{passes_at}
use Rattle.tsl_terms.specs.TermTree.{TermTree, ProbeTree}
use Rattle.tsl_terms.specs.OnlyThese.{reads_only, read_only}
use Rattle.tsl_terms.specs.WindowTree.{WindowTree}
use Rattle.program_tree.specs.NodeTree.{NodeTree, branch, assign}
use Rattle.program_tree.specs.ProgramTree.{ProgramTree}
use Rattle.program_tree.specs.Fits.{BranchesFit, AssignmentsFit, StatesFit, window_fits}
use Rattle.letter_space.specs.SpaceTree.{ControlledTree, SpaceTree}
use Rattle.machines.specs.MachineTree.{ControllerTree}
use Rattle.control_flow_model.specs.ControllerOf.{terms_picked}
use Rattle.control_flow_model.specs.DecisionTree.{DecisionTree, leaf, fork}
use Rattle.control_flow_model.specs.Flow.{shared_trees, node_number, node_for, IsFlowOf, SpaceReadsOnly}
use Rattle.control_flow_model.specs.internal.PartNodes.{AreNodesOf}
use Rattle.control_flow_model.proofs.FlowLemmas.{image_of, first_kept, node_at, node_count, ordered, assignment_of, test_of}
use Rattle.control_flow_model.proofs.FlowLemmas.{state_count, picked_chosen}
use Rattle.control_flow_model.proofs.PickedTerms.{picked_parts, chosen_count}

-- terms that are picked read what the choices read
picked_read : (readable : List ℕ) (cs : List ControlledTree) (picks : List ℕ) (ts : List TermTree) →
    AllByRecursion (λ c. IsTrue (list_all (reads_only readable) c.choices)) cs → terms_picked cs picks ≡ Some ts →
    list_all (reads_only readable) ts ≡ true
picked_read readable [] [] ts read picked = ap (list_all (reads_only readable)) (sym (same_Some [] ts picked))
picked_read readable [] (pick ∷ picks) ts read picked = absurd (none-some ts picked)
picked_read readable (c ∷ cs) [] ts read picked = absurd (none-some ts picked)
picked_read readable (c ∷ cs) (pick ∷ picks) ts read picked =
    let parts = picked_parts c cs pick picks ts picked in
    ap (list_all (reads_only readable)) (sym parts.all)
    ∙ and_from _ _ (passes_at (reads_only readable) c.choices pick parts.first read.0 parts.is_first)
    (picked_read readable cs picks parts.others read.1 parts.are_others)

abbrev pub flow_from : (c : ControllerTree) (space : SpaceTree) (inputs cells outputs : List ℕ) (windows : List WindowTree)
    (nodes : List NodeTree) (states : List ℕ) → AreNodesOf c space nodes states →
    IsFlowOf c space inputs cells outputs windows
    (record { inputs = inputs; cells = cells; outputs = outputs; windows = windows; nodes = nodes; states = states })
flow_from c space inputs cells outputs windows nodes states are = record {
  has_inputs = refl;
  has_cells = refl;
  has_outputs = refl;
  has_windows = refl;
  kept = are.kept;
  are_kept = are.are_kept;
  trees = are.trees;
  are_trees = are.are_trees;
  has_nodes = are.has_nodes;
  has_states = are.has_states;
}

module _ (c : ControllerTree) (space : SpaceTree) (inputs cells outputs : List ℕ) (windows : List WindowTree) (nodes : List NodeTree)
    (states : List ℕ) (are : AreNodesOf c space nodes states) (reads : SpaceReadsOnly (inputs ++ cells) space) where
  abbrev program : ProgramTree
  program = record { inputs = inputs; cells = cells; outputs = outputs; windows = windows; nodes = nodes; states = states }

  abbrev flow : IsFlowOf c space inputs cells outputs windows program
  flow = flow_from c space inputs cells outputs windows nodes states are

  abbrev shared : List DecisionTree
  shared = shared_trees are.trees

  -- the tree of a node
  node_tree_at : (i : ℕ) (node : NodeTree) → slice_get nodes i ≡ Some node →
      (d : DecisionTree) × (slice_get shared i ≡ Some d) × (node_for space are.kept shared d ≡ Some node)
  node_tree_at i node at = image_of (node_for space are.kept shared) shared nodes are.has_nodes i node at

  pub nodes_branch : BranchesFit (inputs ++ cells) nodes
  nodes_branch i m n t at =
      let tree = node_tree_at i (branch t m n) at in
      by tree.0 tree.1 tree.2
    where
      by : (d : DecisionTree) → slice_get shared i ≡ Some d → node_for space are.kept shared d ≡ Some (branch t m n) →
          (m < i) × (n < i) × IsTrue (read_only (inputs ++ cells) t.arguments)
      by (leaf e) stands is =
          let assigns = assignment_of c space inputs cells outputs windows program flow e (branch t m n) is in
          let never : assign assigns.terms assigns.go ≡ branch t m n = assigns.all in
          absurd cc
      by (fork bit a b) stands is =
          let tests = test_of c space inputs cells outputs windows program flow bit a b (branch t m n) is in
          let all : branch tests.probe tests.yes_node tests.no_node ≡ branch t m n = tests.all in
          let probes : tests.probe ≡ t = cc in
          let lefts : tests.yes_node ≡ m = cc in
          let rights : tests.no_node ≡ n = cc in
          let before = ordered c space inputs cells outputs windows program flow i bit a b stands in
          let left = node_at shared a tests.yes_node tests.yes_is in
          let right = node_at shared b tests.no_node tests.no_is in (
            omega (arith, lefts, left.1 before.0.0 before.0.2, before.0.1),
            omega (arith, rights, right.1 before.1.0 before.1.2, before.1.1),
            subst (λ (p : ProbeTree). IsTrue (read_only (inputs ++ cells) p.arguments)) probes
                (passes_at (λ (p : ProbeTree). read_only (inputs ++ cells) p.arguments) space.predicates bit tests.probe reads.tests
                tests.probe_there),
          )

  pub nodes_assign : map (λ d. d.signal) space.controlled ≡ cells ++ outputs →
      AssignmentsFit (inputs ++ cells) (length cells + length outputs) (length states) nodes
  nodes_assign signals i go ts at =
      let tree = node_tree_at i (assign ts go) at in
      by tree.0 tree.2
    where
      by : (d : DecisionTree) → node_for space are.kept shared d ≡ Some (assign ts go) →
          (length ts ≡ length cells + length outputs) × (go < length states) × IsTrue (list_all (reads_only (inputs ++ cells)) ts)
      by (fork bit a b) is =
          let tests = test_of c space inputs cells outputs windows program flow bit a b (assign ts go) is in
          let never : branch tests.probe tests.yes_node tests.no_node ≡ assign ts go = tests.all in
          absurd cc
      by (leaf e) is =
          let assigns = assignment_of c space inputs cells outputs windows program flow e (assign ts go) is in
          let all : assign assigns.terms assigns.go ≡ assign ts go = assigns.all in
          let terms : assigns.terms ≡ ts = cc in
          let goes : assigns.go ≡ go = cc in
          let chosen = picked_chosen space.controlled e.choices assigns.terms assigns.picked in
          let within = slice_get_within are.kept assigns.go e.next assigns.goes in
          let count = state_count c space inputs cells outputs windows program flow in (
            omega (
              arith,
              chosen_count space.controlled assigns.terms chosen,
              ap length terms,
              length-map space.controlled (λ (d : ControlledTree). d.signal),
              ap length signals,
              length-append cells outputs,
            ),
            omega (arith, within, count, goes),
            subst (λ us. IsTrue (list_all (reads_only (inputs ++ cells)) us)) terms
                (picked_read (inputs ++ cells) space.controlled e.choices assigns.terms reads.choices assigns.picked),
          )

  pub nodes_begin : StatesFit states (length nodes)
  nodes_begin = (
    omega (
      arith,
      state_count c space inputs cells outputs windows program flow,
      slice_get_within are.kept 0 0 (first_kept c are.kept are.are_kept),
    ),
    λ s i at.
        let tree = image_of (node_number shared) are.trees states are.has_states s i at in
        let place = node_at shared tree.0 i tree.2 in
        omega (arith, slice_get_within shared i tree.0 place.0, node_count c space inputs cells outputs windows program flow),
  )

-- the same of lists that are these
pub carried : (c : ControllerTree) (space : SpaceTree) (nodes new_nodes : List NodeTree) (states new_states : List ℕ) →
    new_nodes ≡ nodes → new_states ≡ states → AreNodesOf c space nodes states → AreNodesOf c space new_nodes new_states
carried c space nodes new_nodes states new_states same_nodes same_states are =
    subst (λ ns. AreNodesOf c space ns new_states) (sym same_nodes) (subst (AreNodesOf c space nodes) (sym same_states) are)

pub reads_carried : (space : SpaceTree) (inputs new_inputs cells new_cells : List ℕ) → new_inputs ≡ inputs → new_cells ≡ cells →
    SpaceReadsOnly (inputs ++ cells) space → SpaceReadsOnly (new_inputs ++ new_cells) space
reads_carried space inputs new_inputs cells new_cells same_inputs same_cells reads =
    subst (λ ns. SpaceReadsOnly ns space) (sym (λ z. same_inputs z ++ same_cells z)) reads

pub windows_carried : (inputs new_inputs cells new_cells : List ℕ) (windows new_windows : List WindowTree) → new_inputs ≡ inputs →
    new_cells ≡ cells → new_windows ≡ windows → list_all (window_fits (inputs ++ cells) cells) windows ≡ true →
    list_all (window_fits (new_inputs ++ new_cells) new_cells) new_windows ≡ true
windows_carried inputs new_inputs cells new_cells windows new_windows same_inputs same_cells same_windows fit =
    (λ z. list_all (window_fits (same_inputs z ++ same_cells z) (same_cells z)) (same_windows z)) ∙ fit
