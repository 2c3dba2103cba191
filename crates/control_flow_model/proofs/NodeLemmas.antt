-- The nodes of parts: each part has one, and they are the nodes of the trees.
use Rattle.std.proofs.Common.{◌≡◌, ◌∙◌, ℕ, zero, suc, ◌+◌, ◌*◌, ◌^◌, ◌<◌, ◌≤◌, ◌==◌, Bool, true, false, cond}
use Rattle.std.proofs.Common.{List, [], ◌∷◌, ◌++◌, length, map}
use Rattle.std.proofs.Common.{take, get_or, flat_map, Option, Some, slice_get, sym, ap, refl, subst, arith, inl, inr, append-nil}
use Rattle.std.specs.Prelude.{option_map, option_and_then, position, is_some, None}
use Rattle.std.specs.List.{AllByRecursion}
use Rattle.std.proofs.lemmas.Bool.{false≢true}
use Rattle.std.proofs.lemmas.Grind.{flat_map-append}
use Rattle.std.proofs.lemmas.List.{map_push, take_more, take_all, map-append}
use Rattle.std.proofs.lemmas.Nat.{mul-le}
use Rattle.std.proofs.lemmas.Option.{none-some, same_Some, slice_get_within}
use Rattle.std.proofs.Math.Pow.{pow_mono}
use Rattle.base_library.specs.Kept.{with_new}
use Rattle.base_library.specs.Numbers.{is_among}
use Rattle.base_library.proofs.Booleans.{eqb_self}
use Rattle.base_library.proofs.Each.{each_at, each_from_places, each_joined, each_flat_map}
use Rattle.base_library.proofs.Finds.{find_none_at}
use Rattle.base_library.proofs.Lists.{heads, tails}
use Rattle.base_library.proofs.Numbers.{among_at, among_place}
use Rattle.base_library.proofs.Options.{some_mapped}
use Rattle.base_library.proofs.Places.{contains_at, slice_get_some, slice_get_one}
use Rattle.tsl_terms.specs.declared.term.Term.{Term}
use Rattle.tsl_terms.specs.TermTree.{term_tree}
use Rattle.program_tree.specs.NodeTree.{NodeTree, branch}
use Rattle.letter_space.specs.declared.controlled.Controlled.{Controlled}
use Rattle.letter_space.specs.ControlledView.{controlled_tree}
use Rattle.letter_space.specs.SpaceTree.{SpaceTree, IsSpace}
use Rattle.base_library.specs.Once.{StandOnce}
use Rattle.letter_space.specs.Letters.{valuation_count, ArePicks}
use Rattle.letter_space.proofs.Places.{position_tells}
use Rattle.machines.specs.MachineTree.{EntryTree, ControllerTree, controller_entry}
use Rattle.machines.specs.Moves.{FitsSpace}
use Rattle.control_flow_model.specs.ControllerOf.{terms_picked}
use Rattle.control_flow_model.specs.DecisionTree.{DecisionTree, leaf, fork, same_decision, decision_tree, subtrees}
use Rattle.control_flow_model.specs.Flow.{by_entry, AreKept, state_tree, shared_trees, node_number, node_for}
use Rattle.control_flow_model.specs.internal.Parts.{PartKey, IsKeyOf, AreKeysOf, AddsDecision, AreShared}
use Rattle.control_flow_model.specs.internal.PartNodes.{key_node, HasNode, AreNodesOf}
use Rattle.control_flow_model.proofs.FlowLemmas.{image_at, image_of, entry_there, few_shared, place_contained, position_there}
use Rattle.control_flow_model.proofs.NewMembers.{each_new, stays}
use Rattle.control_flow_model.proofs.PartLemmas.{after, kept_once}
use Rattle.control_flow_model.proofs.PickedTerms.{picked_push}
use Rattle.control_flow_model.proofs.TreeLists.{same_decision_is, decision_itself, branches_of}

-- ---- the terms of choices

pub picked_term : (xs : List Controlled) (picks : List ℕ) (i : ℕ) (x : Controlled) (ts : List Term) (t : Term) → i < length xs →
    i < length picks → x ≡ get_or xs i x →
    terms_picked (map controlled_tree (take i xs)) (take i picks) ≡ Some (map term_tree ts) →
    slice_get (controlled_tree x).choices (get_or picks i 0) ≡ Some (term_tree t) →
    terms_picked (map controlled_tree (take (i + 1) xs)) (take (i + 1) picks) ≡ Some (map term_tree (ts ++ t ∷ []))
picked_term xs picks i x ts t within inside is picked at =
    let signals : map controlled_tree (take (i + 1) xs) ≡ map controlled_tree (take i xs) ++ controlled_tree x ∷ [] =
    ap (map controlled_tree) (take_more xs i x within) ∙ map-append controlled_tree (take i xs) (get_or xs i x ∷ [])
    ∙ ap (λ z. map controlled_tree (take i xs) ++ controlled_tree z ∷ []) (sym is) in
    (λ z. terms_picked (signals z) (take_more picks i 0 inside z))
    ∙ picked_push (map controlled_tree (take i xs)) (take i picks) (map term_tree ts) (controlled_tree x) (get_or picks i 0) (term_tree t)
    picked at
    ∙ ap Some (sym (map_push term_tree ts t))

pub picked_end : (xs : List Controlled) (picks : List ℕ) (n : ℕ) (ts : List Term) → length xs ≤ n → length picks ≡ length xs →
    terms_picked (map controlled_tree (take n xs)) (take n picks) ≡ Some (map term_tree ts) →
    terms_picked (map controlled_tree xs) picks ≡ Some (map term_tree ts)
picked_end xs picks n ts past count picked =
    sym (λ z. terms_picked (map controlled_tree (take_all n xs past z)) (take_all n picks (omega (arith, past, count)) z)) ∙ picked

-- ---- places

-- the place of what stands once
pub position_once : {X : Type 0} (test : X → Bool) (xs : List X) (i : ℕ) (x : X) → slice_get xs i ≡ Some x → test x ≡ true →
    ((j : ℕ) (y : X) → slice_get xs j ≡ Some y → test y ≡ true → j ≡ i) → position test xs ≡ Some i
position_once test xs i x at passes once = elim (position_tells test xs) [
  | inl found ↦ found.2 ∙ ap Some (once found.0 found.1 found.3 found.4)
  | inr none ↦ absurd (false≢true (sym (find_none_at test xs i x none.1 at) ∙ passes))
]

pub number_once : (shared : List DecisionTree) → StandOnce shared → (i : ℕ) (d : DecisionTree) → slice_get shared i ≡ Some d →
    node_number shared d ≡ Some i
number_once shared once i d at = position_once (same_decision d) shared i d at (decision_itself d) (λ j t there same.
    once j i d (there ∙ ap Some (sym (same_decision_is d t same))) at)

pub never_absent : (ns : List ℕ) (n : ℕ) → is_among ns n ≡ true → position (λ m. m == n) ns ≡ None → ⊥
never_absent ns n among none =
    let place = among_place ns n among in
    false≢true (sym (ap is_some none) ∙ position_there (λ m. m == n) ns place.0 n place.1 (eqb_self n))

-- ---- images

pub maps_agree : {X Y Z : Type 0} (f : X → Z) (g : Y → Z) (xs : List X) (ys : List Y) → length xs ≡ length ys →
    ((n : ℕ) (x : X) → slice_get xs n ≡ Some x → (y : Y) × (slice_get ys n ≡ Some y) × (f x ≡ g y)) → map f xs ≡ map g ys
maps_agree f g [] [] count each = refl
maps_agree f g [] (y ∷ ys) count each = absurd (omega (arith, count))
maps_agree f g (x ∷ xs) [] count each = absurd (omega (arith, count))
maps_agree f g (x ∷ xs) (y ∷ ys) count each =
    let first = each 0 x refl in
    let here : f x ≡ g y = first.2 ∙ ap g (sym (same_Some y first.0 first.1)) in
    let rest = maps_agree f g xs ys (omega (arith, count)) (λ n z at. each (suc n) z at) in
    λ i. here i ∷ rest i

pub maps_back : {X Y : Type 0} (f : X → Option Y) (g : Y → Option X) → ((x : X) (y : Y) → f x ≡ Some y → g y ≡ Some x) →
    (xs : List X) (ys : List Y) → map f xs ≡ map Some ys → map g ys ≡ map Some xs
maps_back f g back [] [] same = refl
maps_back f g back [] (y ∷ ys) same = absurd cc
maps_back f g back (x ∷ xs) [] same = absurd cc
maps_back f g back (x ∷ xs) (y ∷ ys) same =
    let first = back x y (heads (f x) (Some y) (map f xs) (map Some ys) same) in
    let rest = maps_back f g back xs ys (tails (f x) (Some y) (map f xs) (map Some ys) same) in
    λ i. first i ∷ rest i

-- ---- the trees of states

all_subtrees : (trees : List DecisionTree) (d : DecisionTree) → flat_map subtrees (trees ++ d ∷ []) ≡ flat_map subtrees trees ++ subtrees d
all_subtrees trees d =
    flat_map-append subtrees trees (d ∷ []) ∙ ap (λ ts. flat_map subtrees trees ++ ts) (append-nil (subtrees d))

roots_stay : (old new : List DecisionTree) → ((i : ℕ) (d : DecisionTree) → slice_get old i ≡ Some d → slice_get new i ≡ Some d) →
    (roots : List ℕ) (trees : List DecisionTree) → map (slice_get old) roots ≡ map Some trees → map (slice_get new) roots ≡ map Some trees
roots_stay old new stay [] [] same = refl
roots_stay old new stay [] (t ∷ trees) same = absurd cc
roots_stay old new stay (r ∷ roots) [] same = absurd cc
roots_stay old new stay (r ∷ roots) (t ∷ trees) same =
    let first = stay r t (heads (slice_get old r) (Some t) (map (slice_get old) roots) (map Some trees) same) in
    let rest = roots_stay old new stay roots trees (tails (slice_get old r) (Some t) (map (slice_get old) roots) (map Some trees) same) in
    λ z. first z ∷ rest z

pub shared_more : (space : SpaceTree) (c : ControllerTree) (kept : List ℕ) (i state count : ℕ) (old new : List PartKey) (roots : List ℕ)
    (number : ℕ) → i < length kept → state ≡ get_or kept i 0 → count ≡ length space.predicates → AreShared space c (take i kept) old roots →
    AddsDecision c state count 0 0 old new number → AreShared space c (take (i + 1) kept) new (roots ++ number ∷ [])
shared_more space c kept i state count old new roots number within is counts are decision = record {
  trees = are.trees ++ decision.tree ∷ [];
  are_trees =
      ap (map (state_tree space c)) (take_more kept i 0 within ∙ ap (λ s. take i kept ++ s ∷ []) (sym is))
      ∙ map_push (state_tree space c) (take i kept) state
      ∙ (λ z. are.are_trees z ++ is_tree z ∷ []) ∙ sym (map_push Some are.trees decision.tree);
  are_keys = subst (λ ts. AreKeysOf (shared_of ts) new) (sym parts) (decision.adds.keys (flat_map subtrees are.trees) are.are_keys);
  are_roots =
      map_push (slice_get (shared_trees (are.trees ++ decision.tree ∷ []))) roots number
      ∙ (λ z. stayed z ++ here z ∷ []) ∙ sym (map_push Some are.trees decision.tree);
}
  where
    is_tree : state_tree space c state ≡ Some decision.tree
    is_tree = ap (λ n. decision_tree (controller_entry c state) n 0 0) (sym counts) ∙ decision.is_tree

    shared_of : List DecisionTree → List DecisionTree
    shared_of ts = with_new same_decision [] ts

    parts : flat_map subtrees (are.trees ++ decision.tree ∷ []) ≡ flat_map subtrees are.trees ++ subtrees decision.tree
    parts = all_subtrees are.trees decision.tree

    grows : (k : ℕ) (d : DecisionTree) → slice_get (shared_trees are.trees) k ≡ Some d →
        slice_get (shared_trees (are.trees ++ decision.tree ∷ [])) k ≡ Some d
    grows k d at =
        ap (λ ts. slice_get (with_new same_decision [] ts) k) parts
        ∙ ap (λ ts. slice_get ts k) (sym (after (flat_map subtrees are.trees) (subtrees decision.tree)))
        ∙ stays same_decision (shared_trees are.trees) (subtrees decision.tree) k d at

    stayed : map (slice_get (shared_trees (are.trees ++ decision.tree ∷ []))) roots ≡ map Some are.trees
    stayed = roots_stay (shared_trees are.trees) (shared_trees (are.trees ++ decision.tree ∷ [])) grows roots are.trees are.are_roots

    here : slice_get (shared_trees (are.trees ++ decision.tree ∷ [])) number ≡ Some decision.tree
    here =
        ap (λ ts. slice_get (with_new same_decision [] ts) number) parts
        ∙ decision.adds.there (flat_map subtrees are.trees) are.are_keys

-- ---- each part has a node

module _ (P : EntryTree → Type 0) (most : ℕ) where
  -- at a leaf stands such an entry, and a fork tests a bit below the most
  abbrev pub IsSound : DecisionTree → Type 0
  IsSound (leaf e) = P e
  IsSound (fork bit a b) = bit < most

  pub sound_subtrees : (entries : ℕ → Option EntryTree) (count bit valuation : ℕ) (d : DecisionTree) →
      ((v : ℕ) (e : EntryTree) → entries v ≡ Some e → P e) → bit + count ≤ most →
      decision_tree entries count bit valuation ≡ Some d → AllByRecursion IsSound (subtrees d)
  sound_subtrees entries zero bit valuation d each within is =
      let end = some_mapped leaf (entries valuation) d is in
      subst (λ t. AllByRecursion IsSound (subtrees t)) end.2 (each valuation end.0 end.1, tt)
  sound_subtrees entries (suc count) bit valuation d each within is =
      let branches = branches_of entries count bit valuation d is in
      let fewer : suc bit + count ≤ most = omega (arith, within) in
      let left = sound_subtrees entries count (suc bit) (valuation + 2 ^ bit) branches.yes_tree each fewer branches.is_yes in
      let right = sound_subtrees entries count (suc bit) valuation branches.no_tree each fewer branches.is_no in
      subst (λ t. AllByRecursion IsSound (subtrees t)) branches.all
      (by branches.yes_tree branches.no_tree (same_decision branches.yes_tree branches.no_tree) left right)
    where
      by : (a b : DecisionTree) (same : Bool) → AllByRecursion IsSound (subtrees a) → AllByRecursion IsSound (subtrees b) →
          AllByRecursion IsSound (subtrees (cond same a (fork bit a b)))
      by a b true left right = left
      by a b false left right =
          each_joined IsSound (subtrees a) (subtrees b ++ fork bit a b ∷ []) left
          (each_joined IsSound (subtrees b) (fork bit a b ∷ []) right (omega (arith, within), tt))

-- so many states and bits need few numbers
pub few_numbers : (space : SpaceTree) (states numbers : ℕ) → IsSpace space → states ≤ 64 →
    numbers ≤ states * (2 * valuation_count space) → numbers < 2 ^ 32
few_numbers space states numbers is_space few within =
    let bits : length space.predicates ≤ 10 = is_space.few_predicates in
    let valuations : 2 ^ length space.predicates ≤ 2 ^ 10 = pow_mono bits in
    let twice : 2 * valuation_count space ≤ 2048 = omega (arith, valuations) in
    omega (arith, within, mul-le states (2 * valuation_count space) 64 2048 few twice)

module _ (space : SpaceTree) (c : ControllerTree) (fits : FitsSpace space c) (kept : List ℕ) (are_kept : AreKept c kept)
    (keys : List PartKey) (roots : List ℕ) (are : AreShared space c kept keys roots) where
  abbrev shared : List DecisionTree
  shared = shared_trees are.trees

  once : StandOnce shared
  once = kept_once (flat_map subtrees are.trees)

  abbrev pub IsKeptEntry : EntryTree → Type 0
  IsKeptEntry e = ArePicks space.controlled e.choices × (is_among kept e.next ≡ true)

  kept_entry : (i s v : ℕ) (e : EntryTree) → slice_get kept i ≡ Some s → controller_entry c s v ≡ Some e → IsKeptEntry e
  kept_entry i s v e at entry =
      let reached = (are_kept.reachable s).0 (contains_at kept i s at) in
      let next = place_contained kept e.next ((are_kept.reachable e.next).1 (by_entry s v e reached entry)) in (
        each_at (λ d. ArePicks space.controlled d.choices) c.entries (s * c.valuations + v) e fits.choices (entry_there c s v e entry),
        among_at kept next.0 e.next next.1,
      )

  sound : (n : ℕ) (d : DecisionTree) → slice_get shared n ≡ Some d → IsSound IsKeptEntry (length space.predicates) d
  sound n d at =
      each_new same_decision (IsSound IsKeptEntry (length space.predicates)) [] (flat_map subtrees are.trees)
      (λ i t none. absurd (none-some t none))
      (λ j t there. each_at (IsSound IsKeptEntry (length space.predicates)) (flat_map subtrees are.trees) j t
      (each_flat_map (IsSound IsKeptEntry (length space.predicates)) subtrees are.trees
      (each_from_places _ are.trees (λ i tree stands.
      let state = image_of (state_tree space c) kept are.trees are.are_trees i tree stands in
      sound_subtrees IsKeptEntry (length space.predicates) (controller_entry c state.0) (length space.predicates) 0 0 tree
      (λ v e entry. kept_entry i state.0 v e state.1 entry) (omega arith) state.2))) there) n d at

  key_of : (n : ℕ) (key : PartKey) → slice_get keys n ≡ Some key → (d : DecisionTree) × (slice_get shared n ≡ Some d) × IsKeyOf shared d key
  key_of n key at =
      let tree = slice_get_some shared n (omega (arith, slice_get_within keys n key at, are.are_keys.count)) in
      let have = are.are_keys.each n tree.0 tree.1 in
      (tree.0, tree.1, subst (IsKeyOf shared tree.0) (slice_get_one keys n have.0 key have.1 at) have.2)

  pub have_nodes : length shared ≤ 2 ^ 32 → AllByRecursion (HasNode space kept) keys
  have_nodes few = each_from_places (HasNode space kept) keys (λ n key at.
      let tree = key_of n key at in
      by tree.0 key tree.2 (sound n tree.0 tree.1))
    where
      by : (d : DecisionTree) (key : PartKey) → IsKeyOf shared d key → IsSound IsKeptEntry (length space.predicates) d →
          HasNode space kept key
      by (leaf e) key is sound = subst (HasNode space kept) (sym is) sound
      by (fork bit a b) key (i, j, at_a, at_b, is) below = subst (HasNode space kept) (sym is) (
        below,
        omega (arith, few, slice_get_within shared i a at_a),
        omega (arith, few, slice_get_within shared j b at_b),
      )

  -- a part's node is the tree's

  node_agrees : (d : DecisionTree) (key : PartKey) → IsKeyOf shared d key → node_for space kept shared d ≡ key_node space kept key
  node_agrees (leaf e) key is = ap (key_node space kept) (sym is)
  node_agrees (fork bit a b) key (i, j, at_a, at_b, is) =
      (λ z. option_and_then (λ p. option_and_then (λ k. option_map (branch p k) (number_once shared once j b at_b z))
      (number_once shared once i a at_a z)) (slice_get space.predicates bit))
      ∙ by (slice_get space.predicates bit) ∙ ap (key_node space kept) (sym is)
    where
      by : (o : Option _) → option_and_then (λ p. option_and_then (λ k. option_map (branch p k) (Some j)) (Some i)) o
          ≡ option_map (λ p. branch p i j) o
      by None = refl
      by (Some p) = refl

  nodes_agree : map (node_for space kept shared) shared ≡ map (key_node space kept) keys
  nodes_agree = maps_agree (node_for space kept shared) (key_node space kept) shared keys (sym are.are_keys.count) (λ n d at.
      let have = are.are_keys.each n d at in
      (have.0, have.1, node_agrees d have.0 have.2))

  pub are_nodes : (nodes : List NodeTree) → map (key_node space kept) keys ≡ map Some nodes → AreNodesOf c space nodes roots
  are_nodes nodes is = record {
    kept = kept;
    are_kept = are_kept;
    trees = are.trees;
    are_trees = are.are_trees;
    has_nodes = nodes_agree ∙ is;
    has_states = maps_back (slice_get shared) (node_number shared) (λ r d at. number_once shared once r d at) roots are.trees are.are_roots;
  }

  pub few_parts : length shared ≤ length kept * (2 * valuation_count space)
  few_parts = few_shared space c kept are.trees are.are_trees

  pub roots_within : AllByRecursion (λ r. r < length shared) roots
  roots_within = each_from_places (λ r. r < length shared) roots (λ i r at.
      let tree = image_at (slice_get shared) roots are.trees are.are_roots i r at in
      slice_get_within shared r tree.0 tree.2)
