-- The program of a controller: its signals, how large it is, and that its walks give the controller's entries.
use Rattle.std.proofs.Common.{◌≡◌, ◌∙◌, ℕ, zero, suc, ◌+◌, ◌*◌, ◌^◌, ◌<◌, ◌≤◌, ◌==◌, Bool, true, false, cond}
use Rattle.std.proofs.Common.{List, [], ◌∷◌, ◌++◌, length, map, flat_map, Option, Some, slice_get, get_or, nat_lt, Contains}
use Rattle.std.proofs.Common.{sym, ap, refl, subst, arith, inl, inr}
use Rattle.std.specs.Prelude.{option_map, option_and_then, is_some, position, None}
use Rattle.std.proofs.lemmas.Bool.{and_from, eqb-true, false≢true, ltb-true, ltb-false, lt-ltb}
use Rattle.std.proofs.lemmas.List.{length-map}
use Rattle.std.proofs.lemmas.List.Quantifiers.{position-Some}
use Rattle.std.proofs.lemmas.Option.{none-some, same_Some, option_and_then_some, slice_get_within, slice_get-get_or, get_or_from_slice_get}
use Rattle.base_library.proofs.Each.{each_from_places}
use Rattle.base_library.proofs.Finds.{find_none_at}
use Rattle.base_library.proofs.Lists.{heads, tails}
use Rattle.base_library.proofs.Options.{some_mapped, one_value}
use Rattle.base_library.proofs.Passes.{list_all_from_places}
use Rattle.base_library.proofs.Places.{contains_at, slice_get_some}
use Rattle.tsl_terms.specs.TermTree.{TermTree, ProbeTree}
use Rattle.tsl_terms.specs.SameTree.{same_tree, same_probe_tree}
use Rattle.tsl_terms.specs.Laws.{IsRising}
use Rattle.tsl_terms.specs.WindowTree.{WindowTree}
use Rattle.tsl_terms.proofs.SameLemmas.{same_tree_itself, same_probe_itself, same_probe_is}
use Rattle.program_tree.specs.NodeTree.{NodeTree, branch, assign}
use Rattle.program_tree.specs.ProgramTree.{ProgramTree}
use Rattle.program_tree.specs.Walk.{Action, done_at, walk_from, walk}
use Rattle.ltl_formula.specs.Cubes.{has_bit}
use Rattle.letter_space.specs.SpaceTree.{ControlledTree, SpaceTree, IsSpace}
use Rattle.letter_space.specs.Letters.{valuation_count}
use Rattle.letter_space.proofs.Places.{position_tells, slice_get_image}
use Rattle.machines.specs.MachineTree.{EntryTree, ControllerTree, IsController, controller_entry}
use Rattle.machines.specs.Moves.{FitsSpace}
use Rattle.control_flow_model.specs.ProgramBits.{are_terms_chosen, node_has_bits, ProgramHasBits}
use Rattle.control_flow_model.specs.ControllerOf.{truth_under, terms_picked, IsEntryOf}
use Rattle.control_flow_model.specs.DecisionTree.{DecisionTree, leaf, fork, same_decision, subtrees}
use Rattle.control_flow_model.specs.Flow.{IsReachable, at_start, by_entry, AreKept, IsFlowOf}
use Rattle.control_flow_model.specs.Flow.{state_tree, shared_trees, node_number, node_for}
use Rattle.control_flow_model.proofs.NewMembers.{few_new}
use Rattle.control_flow_model.proofs.PickedTerms.{picked_parts}
use Rattle.control_flow_model.proofs.TreeLists.{same_decision_is, decision_itself, entry_found, finds, few_subtrees}
use Rattle.control_flow_model.proofs.TreeLists.{IsOrdered, all_ordered, few_joined}

-- ---- lists of what is there

module _ {X Y : Type 0} (f : X → Option Y) where
  pub image_at : (xs : List X) (ys : List Y) → map f xs ≡ map Some ys → (i : ℕ) (x : X) → slice_get xs i ≡ Some x →
      (y : Y) × (slice_get ys i ≡ Some y) × (f x ≡ Some y)
  image_at [] ys same i x at = absurd (none-some x at)
  image_at (z ∷ xs) [] same i x at = absurd cc
  image_at (z ∷ xs) (y ∷ ys) same zero x at = (y, refl, ap f (sym (same_Some z x at)) ∙ heads (f z) (Some y) (map f xs) (map Some ys) same)
  image_at (z ∷ xs) (y ∷ ys) same (suc i) x at = image_at xs ys (tails (f z) (Some y) (map f xs) (map Some ys) same) i x at

  pub image_of : (xs : List X) (ys : List Y) → map f xs ≡ map Some ys → (i : ℕ) (y : Y) → slice_get ys i ≡ Some y →
      (x : X) × (slice_get xs i ≡ Some x) × (f x ≡ Some y)
  image_of xs [] same i y at = absurd (none-some y at)
  image_of [] (z ∷ ys) same i y at = absurd cc
  image_of (x ∷ xs) (z ∷ ys) same zero y at = (x, refl, heads (f x) (Some z) (map f xs) (map Some ys) same ∙ ap Some (same_Some z y at))
  image_of (x ∷ xs) (z ∷ ys) same (suc i) y at = image_of xs ys (tails (f x) (Some z) (map f xs) (map Some ys) same) i y at

  pub as_many : (xs : List X) (ys : List Y) → map f xs ≡ map Some ys → length xs ≡ length ys
  as_many xs ys same = sym (length-map xs f) ∙ ap length same ∙ length-map ys Some

-- ---- places

pub position_there : {X : Type 0} (test : X → Bool) (xs : List X) (i : ℕ) (x : X) → slice_get xs i ≡ Some x → test x ≡ true →
    is_some (position test xs) ≡ true
position_there test xs i x at passes = elim (position_tells test xs) [
  | inl found ↦ ap is_some found.2
  | inr none ↦ absurd (false≢true (sym (find_none_at test xs i x none.1 at) ∙ passes))
]

-- the place of a number in a list
pub number_at : (ns : List ℕ) (n i : ℕ) → position (λ m. m == n) ns ≡ Some i → slice_get ns i ≡ Some n
number_at ns n i is =
    let found = position-Some (λ m. m == n) ns i n is in
    slice_get-get_or ns i n found.0 ∙ ap Some (eqb-true (get_or ns i n) n found.1)

-- the number of a tree's node is the first place of the tree
pub node_at : (shared : List DecisionTree) (d : DecisionTree) (i : ℕ) → node_number shared d ≡ Some i →
    (slice_get shared i ≡ Some d) × ((j : ℕ) → slice_get shared j ≡ Some d → i ≤ j)
node_at shared d i is =
    let found = position-Some (same_decision d) shared i d is in (
      slice_get-get_or shared i d found.0 ∙ ap Some (sym (same_decision_is d (get_or shared i d) found.1)),
      λ j at. not_before found.2 j at,
    )
  where
    not_before : ((k : ℕ) → k < i → same_decision d (get_or shared k d) ≡ false) → (j : ℕ) → slice_get shared j ≡ Some d → i ≤ j
    not_before never j at = by (nat_lt j i) refl
      where
        by : (b : Bool) → nat_lt j i ≡ b → i ≤ j
        by true less =
            let k : j < i = ltb-true j i less in
            absurd (false≢true (sym (never j k) ∙ ap (same_decision d) (get_or_from_slice_get shared j d d at) ∙ decision_itself d))
        by false more = ltb-false j i more

-- ---- terms that are picked are choices

pub picked_chosen : (cs : List ControlledTree) (picks : List ℕ) (ts : List TermTree) → terms_picked cs picks ≡ Some ts →
    are_terms_chosen cs ts ≡ true
picked_chosen [] [] ts picked = ap (are_terms_chosen []) (sym (same_Some [] ts picked))
picked_chosen [] (pick ∷ picks) ts picked = absurd (none-some ts picked)
picked_chosen (c ∷ cs) [] ts picked = absurd (none-some ts picked)
picked_chosen (c ∷ cs) (pick ∷ picks) ts picked =
    let parts = picked_parts c cs pick picks ts picked in
    let there = position_there (λ u. same_tree u parts.first) c.choices pick parts.first parts.is_first (same_tree_itself parts.first) in
    ap (are_terms_chosen (c ∷ cs)) (sym parts.all)
    ∙ and_from _ _ (has_bit_if (position (λ u. same_tree u parts.first) c.choices) there)
    (picked_chosen cs picks parts.others parts.are_others)
  where
    has_bit_if : (o : Option ℕ) → is_some o ≡ true → is_some (option_map (λ k. c.first + k) o) ≡ true
    has_bit_if None there = absurd (false≢true there)
    has_bit_if (Some k) there = refl

-- ---- entries, and rising numbers

pub entry_within : (c : ControllerTree) (s v : ℕ) (e : EntryTree) → controller_entry c s v ≡ Some e → v < c.valuations
entry_within c s v e at = by (nat_lt v c.valuations) refl
  where
    by : (b : Bool) → nat_lt v c.valuations ≡ b → v < c.valuations
    by true within = ltb-true v c.valuations within
    by false past = absurd (none-some e (ap (λ b. cond b (slice_get c.entries (s * c.valuations + v)) None) (sym past) ∙ at))

pub entry_there : (c : ControllerTree) (s v : ℕ) (e : EntryTree) → controller_entry c s v ≡ Some e →
    slice_get c.entries (s * c.valuations + v) ≡ Some e
entry_there c s v e at =
    ap (λ b. cond b (slice_get c.entries (s * c.valuations + v)) None) (sym (lt-ltb v c.valuations (entry_within c s v e at))) ∙ at

pub rising_from : (ns : List ℕ) → IsRising ns → (i n : ℕ) → slice_get ns i ≡ Some n → i ≤ n
rising_from ns rise zero n at = omega arith
rising_from ns rise (suc i) n at =
    let before = slice_get_some ns i (omega (arith, slice_get_within ns (suc i) n at)) in
    omega (arith, rising_from ns rise i before.0 before.1, rise i (suc i) before.0 n (omega arith) before.1 at)

pub place_contained : (ns : List ℕ) (n : ℕ) → Contains ns n → (i : ℕ) × (slice_get ns i ≡ Some n)
place_contained ns n (k, within, is) = (k, slice_get-get_or ns k n within ∙ ap Some is)

-- ---- how many trees become nodes

pub few_shared : (space : SpaceTree) (c : ControllerTree) (kept : List ℕ) (trees : List DecisionTree) →
    map (state_tree space c) kept ≡ map Some trees → length (shared_trees trees) ≤ length kept * (2 * valuation_count space)
few_shared space c kept trees are =
    let each = each_from_places (λ d. length (subtrees d) ≤ 2 * valuation_count space) trees (λ i d at.
    let state = image_of (state_tree space c) kept trees are i d at in
    let few = few_subtrees (controller_entry c state.0) (length space.predicates) 0 0 d state.2 in
    omega (arith, few)) in
    let joined = few_joined trees (2 * valuation_count space) each in
    let new = few_new same_decision [] (flat_map subtrees trees) in
    subst (λ n. length (shared_trees trees) ≤ n * (2 * valuation_count space)) (sym (as_many (state_tree space c) kept trees are))
    (omega (arith, joined, new))

module _ (c : ControllerTree) (space : SpaceTree) (inputs cells outputs : List ℕ) (windows : List WindowTree) (program : ProgramTree)
    (flow : IsFlowOf c space inputs cells outputs windows program) where
  abbrev shared : List DecisionTree
  shared = shared_trees flow.trees

  -- what the node of a tree is

  pub record IsAssignment (e : EntryTree) (node : NodeTree) : Type 0 where
    pub terms : List TermTree
    pub go : ℕ
    pub picked : terms_picked space.controlled e.choices ≡ Some terms
    pub goes : slice_get flow.kept go ≡ Some e.next
    pub all : assign terms go ≡ node

  pub record IsTest (bit : ℕ) (a b : DecisionTree) (node : NodeTree) : Type 0 where
    pub probe : ProbeTree
    pub yes_node : ℕ
    pub no_node : ℕ
    pub probe_there : slice_get space.predicates bit ≡ Some probe
    pub yes_is : node_number shared a ≡ Some yes_node
    pub no_is : node_number shared b ≡ Some no_node
    pub all : branch probe yes_node no_node ≡ node

  pub assignment_of : (e : EntryTree) (node : NodeTree) → node_for space flow.kept shared (leaf e) ≡ Some node → IsAssignment e node
  assignment_of e node is = option_and_then_some _ _ _ is (λ ts picked rest.
      let go = some_mapped (assign ts) (position (λ s. s == e.next) flow.kept) node rest in
      record { terms = ts; go = go.0; picked = picked; goes = number_at flow.kept e.next go.0 go.1; all = go.2 })

  pub test_of : (bit : ℕ) (a b : DecisionTree) (node : NodeTree) → node_for space flow.kept shared (fork bit a b) ≡ Some node →
      IsTest bit a b node
  test_of bit a b node is = option_and_then_some _ _ _ is (λ p there rest. option_and_then_some _ _ _ rest (λ i first last.
      let j = some_mapped (branch p i) (node_number shared b) node last in
      record { probe = p; yes_node = i; no_node = j.0; probe_there = there; yes_is = first; no_is = j.1; all = j.2 }))

  pub node_count : length shared ≡ length program.nodes
  node_count = as_many (node_for space flow.kept shared) shared program.nodes flow.has_nodes

  pub ordered : IsOrdered shared
  ordered = all_ordered [] flow.trees (λ i bit a b at. absurd (none-some (fork bit a b) at))

  -- ---- tests and updates have bits

  pub flow_has_bits : map (λ d. d.signal) space.controlled ≡ cells ++ outputs → ProgramHasBits space program
  flow_has_bits signals = record {
    signals = signals ∙ (λ i. sym flow.has_cells i ++ sym flow.has_outputs i);
    nodes = list_all_from_places (node_has_bits space) program.nodes (λ i node at.
        let tree = image_of (node_for space flow.kept shared) shared program.nodes flow.has_nodes i node at in
        has_bits tree.0 node tree.2);
  }
    where
      has_bits : (d : DecisionTree) (node : NodeTree) → node_for space flow.kept shared d ≡ Some node → node_has_bits space node ≡ true
      has_bits (leaf e) node is =
          let assigns = assignment_of e node is in
          ap (node_has_bits space) (sym assigns.all) ∙ picked_chosen space.controlled e.choices assigns.terms assigns.picked
      has_bits (fork bit a b) node is =
          let tests = test_of bit a b node is in
          ap (node_has_bits space) (sym tests.all)
          ∙ position_there (λ p. same_probe_tree p tests.probe) space.predicates bit tests.probe tests.probe_there
          (same_probe_itself tests.probe)

  -- ---- how many states and nodes there are

  pub state_count : length program.states ≡ length flow.kept
  state_count =
      sym (as_many (node_number shared) flow.trees program.states flow.has_states)
      ∙ sym (as_many (state_tree space c) flow.kept flow.trees flow.are_trees)

  pub few_nodes : length program.nodes ≤ length program.states * (2 * valuation_count space)
  few_nodes =
      let few = few_shared space c flow.kept flow.trees flow.are_trees in
      subst (λ n. length program.nodes ≤ n * (2 * valuation_count space)) (sym state_count) (omega (arith, few, node_count))

  -- ---- walks

  module _ (is_space : IsSpace space) (valuation : ℕ) where
    truth_of : (bit : ℕ) (p : ProbeTree) → slice_get space.predicates bit ≡ Some p →
        truth_under space valuation p ≡ Some (has_bit bit valuation)
    truth_of bit p at = elim (position_tells (λ q. same_probe_tree q p) space.predicates) [
      | inl found ↦
          let same : found.1 ≡ p = same_probe_is found.1 p found.4 in
          let place : found.0 ≡ bit = is_space.predicates_once found.0 bit p (found.3 ∙ ap Some same) at in
          ap (option_map (λ b. has_bit b valuation)) found.2 ∙ ap (λ b. Some (has_bit b valuation)) place
      | inr none ↦ absurd (false≢true
          (sym (find_none_at (λ q. same_probe_tree q p) space.predicates bit p none.1 at) ∙ same_probe_itself p))
    ]

    -- the entry that a tree finds is done at its node
    pub record IsDone (d : DecisionTree) (found : Option Action) : Type 0 where
      pub action : Action
      pub walks : found ≡ Some action
      pub assigns : terms_picked space.controlled (entry_found d valuation).choices ≡ Some action.updates
      pub goes : slice_get flow.kept action.go ≡ Some (entry_found d valuation).next

    pub done_from : (n i : ℕ) (d : DecisionTree) → slice_get shared i ≡ Some d → i < n →
        IsDone d (walk_from program.nodes (truth_under space valuation) n i)
    done_from zero i d at below = absurd (omega arith)
    done_from (suc n) i d at below =
        let node = image_at (node_for space flow.kept shared) shared program.nodes flow.has_nodes i d at in
        here d at node.0 node.1 node.2 (λ j t. done_from n j t)
      where
        truths : ProbeTree → Option Bool
        truths = truth_under space valuation

        here : (d : DecisionTree) → slice_get shared i ≡ Some d → (node : NodeTree) → slice_get program.nodes i ≡ Some node →
            node_for space flow.kept shared d ≡ Some node →
            ((j : ℕ) (t : DecisionTree) → slice_get shared j ≡ Some t → j < n →
            IsDone t (walk_from program.nodes (truth_under space valuation) n j)) →
            IsDone d (walk_from program.nodes (truth_under space valuation) (suc n) i)
        here (leaf e) tree node at is smaller =
            let assigns = assignment_of e node is in
            record {
              action = record { updates = assigns.terms; go = assigns.go };
              walks =
                  ap (option_and_then (done_at truths (walk_from program.nodes truths n))) (at ∙ ap Some (sym assigns.all));
              assigns = assigns.picked;
              goes = assigns.goes;
            }
        here (fork bit a b) tree node at is smaller =
            let tests = test_of bit a b node is in
            let before = ordered i bit a b tree in
            let left = node_at shared a tests.yes_node tests.yes_is in
            let right = node_at shared b tests.no_node tests.no_is in
            let yes_below : tests.yes_node < n = omega (arith, left.1 before.0.0 before.0.2, before.0.1, below) in
            let no_below : tests.no_node < n = omega (arith, right.1 before.1.0 before.1.2, before.1.1, below) in
            let start : walk_from program.nodes truths (suc n) i
            ≡ walk_from program.nodes truths n (cond (has_bit bit valuation) tests.yes_node tests.no_node) =
            ap (option_and_then (done_at truths (walk_from program.nodes truths n))) (at ∙ ap Some (sym tests.all))
            ∙ ap (option_and_then (λ holds. walk_from program.nodes truths n (cond holds tests.yes_node tests.no_node)))
            (truth_of bit tests.probe tests.probe_there) in
            by tests.yes_node tests.no_node (has_bit bit valuation) refl start (smaller tests.yes_node a left.0 yes_below)
            (smaller tests.no_node b right.0 no_below)
          where
            moved : (t : DecisionTree) (j : ℕ) → entry_found (fork bit a b) valuation ≡ entry_found t valuation →
                walk_from program.nodes truths (suc n) i ≡ walk_from program.nodes truths n j →
                IsDone t (walk_from program.nodes truths n j) → IsDone (fork bit a b) (walk_from program.nodes truths (suc n) i)
            moved t j same walks done = record {
              action = done.action;
              walks = walks ∙ done.walks;
              assigns = ap (λ (e : EntryTree). terms_picked space.controlled e.choices) same ∙ done.assigns;
              goes = done.goes ∙ ap (λ (e : EntryTree). Some e.next) (sym same);
            }

            by : (yes_node no_node : ℕ) (holds : Bool) → has_bit bit valuation ≡ holds →
                walk_from program.nodes truths (suc n) i
                ≡ walk_from program.nodes truths n (cond (has_bit bit valuation) yes_node no_node) →
                IsDone a (walk_from program.nodes truths n yes_node) → IsDone b (walk_from program.nodes truths n no_node) →
                IsDone (fork bit a b) (walk_from program.nodes truths (suc n) i)
            by yes_node no_node true holds start left right =
                moved a yes_node (ap (λ h. cond h (entry_found a valuation) (entry_found b valuation)) holds)
                (start ∙ ap (λ h. walk_from program.nodes truths n (cond h yes_node no_node)) holds) left
            by yes_node no_node false holds start left right =
                moved b no_node (ap (λ h. cond h (entry_found a valuation) (entry_found b valuation)) holds)
                (start ∙ ap (λ h. walk_from program.nodes truths n (cond h yes_node no_node)) holds) right

    -- the tree of a state, and its node
    pub record HasTree (i s : ℕ) : Type 0 where
      pub tree : DecisionTree
      pub node : ℕ
      pub is_tree : state_tree space c s ≡ Some tree
      pub begins : slice_get program.states i ≡ Some node
      pub stands : slice_get shared node ≡ Some tree

    pub tree_of : (i s : ℕ) → slice_get flow.kept i ≡ Some s → HasTree i s
    tree_of i s state =
        let tree = image_at (state_tree space c) flow.kept flow.trees flow.are_trees i s state in
        let first = image_at (node_number shared) flow.trees program.states flow.has_states i tree.0 tree.1 in
        record {
          tree = tree.0;
          node = first.0;
          is_tree = tree.2;
          begins = first.1;
          stands = (node_at shared tree.0 first.0 first.2).0;
        }

    pub tree_walks : (i s : ℕ) (has : HasTree i s) → IsDone has.tree (walk program (truth_under space valuation) i)
    tree_walks i s has =
        let within : has.node < length program.nodes = omega (arith, slice_get_within shared has.node has.tree has.stands, node_count) in
        subst (IsDone has.tree)
        (sym (ap (option_and_then (walk_from program.nodes (truth_under space valuation) (length program.nodes))) has.begins))
        (done_from (length program.nodes) has.node has.tree has.stands within)

    pub tree_finds : FitsSpace space c → (s : ℕ) (tree : DecisionTree) (e : EntryTree) → state_tree space c s ≡ Some tree →
        controller_entry c s valuation ≡ Some e → entry_found tree valuation ≡ e
    tree_finds fits s tree e is entry =
        let below : valuation < 2 ^ length space.predicates = omega (arith, fits.valuations, entry_within c s valuation e entry) in
        let start : valuation * 2 ^ 0 + 0 ≡ valuation = omega arith in
        one_value (controller_entry c s valuation) (entry_found tree valuation) e
        (subst (λ n. controller_entry c s n ≡ Some (entry_found tree n)) start
        (finds (controller_entry c s) (length space.predicates) 0 0 tree (omega arith) is valuation below)) entry

    entry_done : (i : ℕ) (tree : DecisionTree) (e : EntryTree) → entry_found tree valuation ≡ e →
        IsDone tree (walk program (truth_under space valuation) i) →
        (go : ℕ) × (slice_get flow.kept go ≡ Some e.next)
        × IsEntryOf space program i valuation (record { choices = e.choices; next = go })
    entry_done i tree e same done = (
      done.action.go,
      done.goes ∙ ap (λ (d : EntryTree). Some d.next) same,
      record {
        action = done.action;
        walks = done.walks;
        assigns = ap (λ (d : EntryTree). terms_picked space.controlled d.choices) (sym same) ∙ done.assigns;
        goes = refl;
      },
    )

    pub flow_walks : FitsSpace space c → (i s : ℕ) (e : EntryTree) → slice_get flow.kept i ≡ Some s →
        controller_entry c s valuation ≡ Some e →
        (go : ℕ) × (slice_get flow.kept go ≡ Some e.next)
        × IsEntryOf space program i valuation (record { choices = e.choices; next = go })
    flow_walks fits i s e state entry =
        let has = tree_of i s state in
        entry_done i has.tree e (tree_finds fits s has.tree e has.is_tree entry) (tree_walks i s has)

-- ---- reachable states

module _ (c : ControllerTree) (is : IsController c) where
  pub reachable_below : (s : ℕ) → IsReachable c s → s < c.states
  reachable_below _ at_start = omega (arith, is.has_state)
  reachable_below _ (by_entry s v e before entry) =
      let there = entry_there c s v e entry in
      is.stays (s * c.valuations + v) e.next (slice_get_image (λ (d : EntryTree). d.next) c.entries (s * c.valuations + v) e there)

  module _ (kept : List ℕ) (are : AreKept c kept) where
    pub kept_below : (i s : ℕ) → slice_get kept i ≡ Some s → s < c.states
    kept_below i s at = reachable_below s ((are.reachable s).0 (contains_at kept i s at))

    pub few_kept : length kept ≤ c.states
    few_kept = by (length kept) refl
      where
        by : (n : ℕ) → length kept ≡ n → length kept ≤ c.states
        by zero none = omega (arith, none)
        by (suc n) some =
            let last = slice_get_some kept n (omega (arith, some)) in
            omega (arith, some, rising_from kept are.rise n last.0 last.1, kept_below n last.0 last.1)

pub first_kept : (c : ControllerTree) (kept : List ℕ) → AreKept c kept → slice_get kept 0 ≡ Some 0
first_kept c kept are =
    let place = place_contained kept 0 ((are.reachable 0).1 at_start) in
    let none : place.0 ≡ 0 = omega (arith, rising_from kept are.rise place.0 0 place.1) in
    subst (λ k. slice_get kept k ≡ Some 0) none place.1
