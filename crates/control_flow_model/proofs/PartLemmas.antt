-- Parts with numbers: their equality as a test, and the trees that they are.
use Rattle.std.proofs.Common.{◌≡◌, ◌∙◌, ℕ, suc, ◌+◌, ◌^◌, ◌==◌, ◌⊎◌, Bool, true, false, cond, ◌&&◌, List, [], ◌∷◌, ◌++◌, length}
use Rattle.std.proofs.Common.{Some, slice_get, sym, ap, refl, subst, arith, inl, inr, length-append, eq-eqb, if◌then◌else◌}
use Rattle.std.specs.Prelude.{option_map, option_and_then}
use Rattle.std.specs.List.{list_any}
use Rattle.std.proofs.lemmas.Bool.{and_parts, cases_eq, eqb-true, false≢true, false_from_ne_true}
use Rattle.std.proofs.lemmas.Option.{slice_get_within, slice_get-map}
use Rattle.base_library.specs.Kept.{is_kept, with_new}
use Rattle.base_library.proofs.Booleans.{same_tests}
use Rattle.base_library.proofs.Kept.{with_new-append, with_new-absent, with_new-present, with_new-from_none}
use Rattle.base_library.proofs.Places.{slice_get_some, slice_get_one, slice_get_push, slice_get_grown, slice_get-behind}
use Rattle.tsl_terms.specs.Distinct.{without_repeats}
use Rattle.base_library.specs.Once.{StandOnce}
use Rattle.letter_space.proofs.Once.{once_without_repeats}
use Rattle.machines.specs.MachineTree.{EntryTree, ControllerTree, controller_entry}
use Rattle.control_flow_model.specs.contracts.parting.PartPartialEq.TheImpl as impl
use Rattle.control_flow_model.specs.declared.parting.Part.{Part}
use Rattle.control_flow_model.specs.declared.parting.Part.TheVariants.{Leaf, Fork}
use Rattle.control_flow_model.specs.DecisionTree.{DecisionTree, leaf, fork, same_decision, forked, decision_tree, subtrees}
use Rattle.control_flow_model.specs.internal.Parts.{PartKey, leaf_key, fork_key, part_key, part_keys, same_key}
use Rattle.control_flow_model.specs.internal.Parts.{kept_trees, IsKeyOf, AreKeysOf, AddsTree, AddsDecision}
use Rattle.control_flow_model.proofs.NewMembers.{with_one, one_more, stays, stands, is_kept_at, not_kept_at, kept_place, nothing_new}
use Rattle.control_flow_model.proofs.TreeLists.{same_entry_is, entry_itself, same_decision_is, decision_itself, fork_parts}

-- ---- equality

pub same_key_is : (k m : PartKey) → same_key k m ≡ true → k ≡ m
same_key_is (leaf_key e) (leaf_key f) same = ap leaf_key (same_entry_is e f same)
same_key_is (leaf_key e) (fork_key m k l) same = absurd (false≢true same)
same_key_is (fork_key n i j) (leaf_key f) same = absurd (false≢true same)
same_key_is (fork_key n i j) (fork_key m k l) same =
    let first = and_parts (n == m) ((i == k) && (j == l)) same in
    let second = and_parts (i == k) (j == l) first.1 in
    let bits : n ≡ m = eqb-true n m first.0 in
    let left : i ≡ k = eqb-true i k second.0 in
    let right : j ≡ l = eqb-true j l second.1 in
    λ x. fork_key (bits x) (left x) (right x)

pub key_itself : (k : PartKey) → same_key k k ≡ true
key_itself (leaf_key e) = entry_itself e
key_itself (fork_key n i j) = rw (eq-eqb n n refl, eq-eqb i i refl, eq-eqb j j refl) refl

same_key_swaps : (k m : PartKey) → same_key k m ≡ same_key m k
same_key_swaps k m =
    same_tests (same_key k m) (same_key m k) (λ same. subst (λ x. same_key x k ≡ true) (same_key_is k m same) (key_itself k))
    (λ same. subst (λ x. same_key x m ≡ true) (same_key_is m k same) (key_itself m))

eq_is : (p q : Part) → (impl.eq-value).it p q ≡ same_key (part_key p) (part_key q)
eq_is (Leaf choices next) (Leaf others after) = refl
eq_is (Leaf choices next) (Fork bit i j) = refl
eq_is (Fork bit i j) (Leaf choices next) = refl
eq_is (Fork bit i j) (Fork other k l) = refl

among_is : (p : Part) (ps : List Part) → list_any ((impl.eq-value).it p) ps ≡ list_any (λ q. same_key (part_key q) (part_key p)) ps
among_is p ps i = list_any (λ q. (eq_is p q ∙ same_key_swaps (part_key p) (part_key q)) i) ps

-- what is stored
pub part_kept : (p : Part) (old new : List Part) → new ≡ (if list_any ((impl.eq-value).it p) old then old else old ++ p ∷ []) →
    part_keys new ≡ with_new same_key (part_keys old) (part_key p ∷ [])
part_kept p old new is = by (list_any ((impl.eq-value).it p) old) refl is
  where
    by : (among : Bool) → list_any ((impl.eq-value).it p) old ≡ among → new ≡ (if among then old else old ++ p ∷ []) →
        part_keys new ≡ with_new same_key (part_keys old) (part_key p ∷ [])
    by true at is =
        ap part_keys is
        ∙ with_new-present part_key same_key old (part_key p) (list_any ((impl.eq-value).it p) old) (among_is p old) at
    by false at is =
        with_new-absent part_key same_key old (part_key p) new p (list_any ((impl.eq-value).it p) old) (among_is p old) at is refl

pub part_stands : (p : Part) (new : List Part) (n : ℕ) →
    (q : Part) × (slice_get new n ≡ Some q) × ((impl.eq-value).it p q ≡ true) → slice_get (part_keys new) n ≡ Some (part_key p)
part_stands p new n (q, at, same) =
    slice_get-map part_key new n ∙ ap (option_map part_key) at
    ∙ ap Some (sym (same_key_is (part_key p) (part_key q) (sym (eq_is p q) ∙ same)))

-- ---- parts and trees

pub kept_once : (done : List DecisionTree) → StandOnce (kept_trees done)
kept_once done =
    subst StandOnce (sym (with_new-from_none same_decision same_decision_is (without_repeats same_decision) refl (λ _ _. refl) done))
    (once_without_repeats same_decision same_decision_is decision_itself done)

-- a part is that of one tree, and a tree has one part
pub one_tree : (trees : List DecisionTree) (d t : DecisionTree) (key : PartKey) → IsKeyOf trees d key → IsKeyOf trees t key → d ≡ t
one_tree trees (leaf e) (leaf f) key first second =
    let keys : leaf_key e ≡ leaf_key f = sym first ∙ second in
    let same : e ≡ f = cc in
    ap leaf same
one_tree trees (leaf e) (fork m x y) key first (k, l, at_x, at_y, is) =
    let keys : leaf_key e ≡ fork_key m k l = sym first ∙ is in
    absurd cc
one_tree trees (fork n a b) (leaf f) key (i, j, at_a, at_b, is) second =
    let keys : fork_key n i j ≡ leaf_key f = sym is ∙ second in
    absurd cc
one_tree trees (fork n a b) (fork m x y) key (i, j, at_a, at_b, is) (k, l, at_x, at_y, also) =
    let keys : fork_key n i j ≡ fork_key m k l = sym is ∙ also in
    let bits : n ≡ m = cc in
    let lefts : i ≡ k = cc in
    let rights : j ≡ l = cc in
    let left = slice_get_one trees i a x at_a (ap (slice_get trees) lefts ∙ at_x) in
    let right = slice_get_one trees j b y at_b (ap (slice_get trees) rights ∙ at_y) in
    λ z. fork (bits z) (left z) (right z)

one_key : (trees : List DecisionTree) (d : DecisionTree) (key other : PartKey) → StandOnce trees → IsKeyOf trees d key →
    IsKeyOf trees d other → key ≡ other
one_key trees (leaf e) key other once first second = first ∙ sym second
one_key trees (fork n a b) key other once (i, j, at_a, at_b, is) (k, l, also_a, also_b, also) =
    let left = once i k a at_a also_a in
    let right = once j l b at_b also_b in
    is ∙ (λ z. fork_key n (left z) (right z)) ∙ sym also

grown_key : (trees : List DecisionTree) (t d : DecisionTree) (key : PartKey) → IsKeyOf trees d key → IsKeyOf (trees ++ t ∷ []) d key
grown_key trees t (leaf e) key is = is
grown_key trees t (fork n a b) key (i, j, at_a, at_b, is) =
    (i, j, slice_get_grown trees (t ∷ []) i a at_a, slice_get_grown trees (t ∷ []) j b at_b, is)

-- the number of a tree's part is the tree's
pub number_there : (trees : List DecisionTree) (keys : List PartKey) (d : DecisionTree) (key : PartKey) (n : ℕ) → AreKeysOf trees keys →
    IsKeyOf trees d key → slice_get keys n ≡ Some key → slice_get trees n ≡ Some d
number_there trees keys d key n are is at =
    let tree = slice_get_some trees n (omega (arith, slice_get_within keys n key at, are.count)) in
    let here = are.each n tree.0 tree.1 in
    let same : here.0 ≡ key = slice_get_one keys n here.0 key here.1 at in
    tree.1 ∙ ap Some (one_tree trees tree.0 d key (subst (IsKeyOf trees tree.0) same here.2) is)

-- one more tree, and its part
module _ (trees : List DecisionTree) (keys : List PartKey) (d : DecisionTree) (key : PartKey) (once : StandOnce trees)
    (are : AreKeysOf trees keys) (is : IsKeyOf trees d key) where
  key_present : is_kept same_decision trees d ≡ true → is_kept same_key keys key ≡ true
  key_present present =
      let place = kept_place same_decision same_decision_is decision_itself trees d present in
      let here = are.each place.0 d place.1 in
      is_kept_at same_key same_key_is key_itself keys place.0 key (here.1 ∙ ap Some (one_key trees d here.0 key once here.2 is))

  key_absent : is_kept same_decision trees d ≡ false → is_kept same_key keys key ≡ false
  key_absent absent = false_from_ne_true _ (λ present.
      let place = kept_place same_key same_key_is key_itself keys key present in
      not_kept_at same_decision same_decision_is decision_itself trees place.0 d absent
      (number_there trees keys d key place.0 are is place.1))

  pushed : AreKeysOf (trees ++ d ∷ []) (keys ++ key ∷ [])
  pushed = record {
    count = omega (arith, are.count, length-append trees (d ∷ []), length-append keys (key ∷ []));
    each = λ n t at. elim (slice_get_push trees d n t at) [
      | inl before ↦
          let here = are.each n t before.1 in
          (here.0, slice_get_grown keys (key ∷ []) n here.0 here.1, grown_key trees d t here.0 here.2)
      | inr last ↦
          let place : length keys ≡ n = are.count ∙ sym last.0 in (
            key,
            ap (slice_get (keys ++ key ∷ [])) (sym place) ∙ slice_get-behind keys key [],
            subst (λ x. IsKeyOf (trees ++ d ∷ []) x key) last.1 (grown_key trees d d key is),
          )
    ];
  }

  pub with_key : AreKeysOf (with_one same_decision trees d) (with_one same_key keys key)
  with_key =
      one_more same_decision (λ ts. AreKeysOf ts (with_one same_key keys key)) trees d
      (λ present. subst (AreKeysOf trees) (sym (ap (λ b. cond b keys (keys ++ key ∷ [])) (key_present present))) are)
      (λ absent. subst (AreKeysOf (trees ++ d ∷ [])) (sym (ap (λ b. cond b keys (keys ++ key ∷ [])) (key_absent absent))) pushed)

  key_stays : IsKeyOf (with_one same_decision trees d) d key
  key_stays = one_more same_decision (λ ts. IsKeyOf ts d key) trees d (λ _. is) (λ _. grown_key trees d d key is)

  pub with_number : (n : ℕ) → slice_get (with_one same_key keys key) n ≡ Some key → slice_get (with_one same_decision trees d) n ≡ Some d
  with_number n at =
      number_there (with_one same_decision trees d) (with_one same_key keys key) d key n with_key key_stays at

pub after : (done xs : List DecisionTree) → with_new same_decision (kept_trees done) xs ≡ kept_trees (done ++ xs)
after done xs = with_new-append same_decision [] done xs

-- an entry
pub leaf_added : (old new : List PartKey) (e : EntryTree) (number : ℕ) → new ≡ with_new same_key old (leaf_key e ∷ []) →
    slice_get new number ≡ Some (leaf_key e) → AddsTree old new (leaf e) number
leaf_added old new e number is there = record {
  keys = λ done are.
      subst (AreKeysOf (kept_trees (done ++ leaf e ∷ []))) (sym is)
      (subst (λ ts. AreKeysOf ts (with_one same_key old (leaf_key e))) (after done (leaf e ∷ []))
      (with_key (kept_trees done) old (leaf e) (leaf_key e) (kept_once done) are refl));
  there = λ done are.
      ap (λ ts. slice_get ts number) (sym (after done (leaf e ∷ [])))
      ∙ with_number (kept_trees done) old (leaf e) (leaf_key e) (kept_once done) are refl number
      (ap (λ ks. slice_get ks number) (sym is) ∙ there);
}

-- a test of two trees
module _ (old middle last new : List PartKey) (a b : DecisionTree) (bit i j number : ℕ) (first : AddsTree old middle a i)
    (second : AddsTree middle last b j) (same : i ≡ j → (number ≡ i) × (new ≡ last))
    (kept : (i ≡ j → ⊥) → new ≡ with_new same_key last (fork_key bit i j ∷ []))
    (there : (i ≡ j → ⊥) → slice_get new number ≡ Some (fork_key bit i j)) where
  module _ (done : List DecisionTree) (are : AreKeysOf (kept_trees done) old) where
    abbrev with_a : List DecisionTree
    with_a = done ++ subtrees a

    abbrev with_both : List DecisionTree
    with_both = with_a ++ subtrees b

    are_a : AreKeysOf (kept_trees with_a) middle
    are_a = first.keys done are

    are_both : AreKeysOf (kept_trees with_both) last
    are_both = second.keys with_a are_a

    a_there : slice_get (kept_trees with_both) i ≡ Some a
    a_there =
        ap (λ ts. slice_get ts i) (sym (after with_a (subtrees b)))
        ∙ stays same_decision (kept_trees with_a) (subtrees b) i a (first.there done are)

    b_there : slice_get (kept_trees with_both) j ≡ Some b
    b_there = second.there with_a are_a

    -- both branches are one tree

    equal_trees : i ≡ j → a ≡ b
    equal_trees numbers = slice_get_one (kept_trees with_both) i a b a_there (ap (slice_get (kept_trees with_both)) numbers ∙ b_there)

    forked_one : i ≡ j → forked bit a b ≡ a
    forked_one numbers =
        ap (λ s. cond s a (fork bit a b)) (subst (λ t. same_decision a t ≡ true) (equal_trees numbers) (decision_itself a))

    nothing_more : i ≡ j → kept_trees with_both ≡ kept_trees with_a
    nothing_more numbers =
        sym (after with_a (subtrees b))
        ∙ nothing_new same_decision same_decision_is decision_itself (kept_trees with_a) (subtrees b) (λ k x at.
        let in_a : slice_get (subtrees a) k ≡ Some x = ap (λ t. slice_get (subtrees t) k) (equal_trees numbers) ∙ at in
        let place = stands same_decision same_decision_is decision_itself (kept_trees done) (subtrees a) k x in_a in
        (place.0, ap (λ ts. slice_get ts place.0) (sym (after done (subtrees a))) ∙ place.1))

    -- they differ

    forked_two : (i ≡ j → ⊥) → forked bit a b ≡ fork bit a b
    forked_two differ = ap (λ s. cond s a (fork bit a b)) (false_from_ne_true _ (λ equal.
        differ (kept_once with_both i j b (a_there ∙ ap Some (same_decision_is a b equal)) b_there)))

    with_fork : kept_trees (done ++ subtrees (fork bit a b)) ≡ with_one same_decision (kept_trees with_both) (fork bit a b)
    with_fork =
        sym (after done (subtrees (fork bit a b))) ∙ fork_parts (kept_trees done) bit a b
        ∙ ap (λ ts. with_one same_decision ts (fork bit a b))
        (ap (λ ts. with_new same_decision ts (subtrees b)) (after done (subtrees a)) ∙ after with_a (subtrees b))

    fork_is : IsKeyOf (kept_trees with_both) (fork bit a b) (fork_key bit i j)
    fork_is = (i, j, a_there, b_there, refl)

    whole : (forked : DecisionTree) → ((i ≡ j) ⊎ (i ≡ j → ⊥)) → (i ≡ j → forked ≡ a) → ((i ≡ j → ⊥) → forked ≡ fork bit a b) →
        AreKeysOf (kept_trees (done ++ subtrees forked)) new × (slice_get (kept_trees (done ++ subtrees forked)) number ≡ Some forked)
    whole forked (inl numbers) one two =
        let is = same numbers in
        subst (λ t. AreKeysOf (kept_trees (done ++ subtrees t)) new × (slice_get (kept_trees (done ++ subtrees t)) number ≡ Some t))
        (sym (one numbers)) (
          subst (AreKeysOf (kept_trees with_a)) (sym is.1) (subst (λ ts. AreKeysOf ts last) (nothing_more numbers) are_both),
          ap (slice_get (kept_trees with_a)) is.0 ∙ first.there done are,
        )
    whole forked (inr differ) one two =
        subst (λ t. AreKeysOf (kept_trees (done ++ subtrees t)) new × (slice_get (kept_trees (done ++ subtrees t)) number ≡ Some t))
        (sym (two differ)) (
          subst (AreKeysOf (kept_trees (done ++ subtrees (fork bit a b)))) (sym (kept differ))
              (subst (λ ts. AreKeysOf ts (with_one same_key last (fork_key bit i j))) (sym with_fork)
              (with_key (kept_trees with_both) last (fork bit a b) (fork_key bit i j) (kept_once with_both) are_both fork_is)),
          ap (λ ts. slice_get ts number) with_fork
              ∙ with_number (kept_trees with_both) last (fork bit a b) (fork_key bit i j) (kept_once with_both) are_both fork_is number
              (ap (λ ks. slice_get ks number) (sym (kept differ)) ∙ there differ),
        )

    pub fork_whole : AreKeysOf (kept_trees (done ++ subtrees (forked bit a b))) new
        × (slice_get (kept_trees (done ++ subtrees (forked bit a b))) number ≡ Some (forked bit a b))
    fork_whole = whole (forked bit a b) (cases_eq i j) forked_one forked_two

  pub fork_added : AddsTree old new (forked bit a b) number
  fork_added = record {
    keys = λ done are. (fork_whole done are).0;
    there = λ done are. (fork_whole done are).1;
  }

-- ---- the tree of a state

pub decided_fork : (c : ControllerTree) (state count fewer bit next valuation more : ℕ) (old middle last new : List PartKey)
    (i j number : ℕ) → count ≡ suc fewer → next ≡ suc bit → more ≡ valuation + 2 ^ bit → AddsDecision c state fewer next more old middle i →
    AddsDecision c state fewer next valuation middle last j → (i ≡ j → (number ≡ i) × (new ≡ last)) →
    ((i ≡ j → ⊥) → new ≡ with_new same_key last (fork_key bit i j ∷ [])) →
    ((i ≡ j → ⊥) → slice_get new number ≡ Some (fork_key bit i j)) → AddsDecision c state count bit valuation old new number
decided_fork c state count fewer bit next valuation more old middle last new i j number counts nexts mores first second same kept there =
    subst (λ n. AddsDecision c state n bit valuation old new number) (sym counts) (record {
      tree = forked bit first.tree second.tree;
      is_tree =
          ap (option_and_then (λ a. option_map (forked bit a) (decision_tree (controller_entry c state) fewer (suc bit) valuation)))
          (sym (λ z. decision_tree (controller_entry c state) fewer (nexts z) (mores z)) ∙ first.is_tree)
          ∙ ap (option_map (forked bit first.tree))
          (ap (λ n. decision_tree (controller_entry c state) fewer n valuation) (sym nexts) ∙ second.is_tree);
      adds = fork_added old middle last new first.tree second.tree bit i j number first.adds second.adds same kept there;
    })
