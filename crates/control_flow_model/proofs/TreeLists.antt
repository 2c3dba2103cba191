-- Decision trees: their equality as a test, what they find under a valuation, how many trees they are made of, and the lists of
-- trees that become nodes.
use Rattle.std.proofs.Common.{◌≡◌, ◌∙◌, ℕ, zero, suc, ◌+◌, ◌-◌, ◌*◌, ◌/◌, ◌%◌, ◌^◌, ◌<◌, ◌≤◌, ◌==◌, Bool, true, false, cond, ◌&&◌}
use Rattle.std.proofs.Common.{List, [], ◌∷◌, ◌++◌, length, flat_map, Option, Some, slice_get}
use Rattle.std.proofs.Common.{sym, ap, refl, subst, arith, inl, inr, length-append, append_assoc, eq-eqb}
use Rattle.std.specs.Prelude.{bytes_eq}
use Rattle.std.specs.List.{AllByRecursion}
use Rattle.std.proofs.lemmas.Bool.{and_parts, eqb-true, eqb-false, false≢true}
use Rattle.std.proofs.lemmas.Option.{none-some, same_Some, option_and_then_some, slice_get_within}
use Rattle.std.proofs.lemmas.Nat.Bits.{bit_at_lowest, bit_at_cat_high}
use Rattle.std.proofs.lemmas.Slice.Eq.{bytes_eq-Decides}
use Rattle.std.proofs.Math.Nat.{pow-suc}
use Rattle.base_library.specs.Kept.{with_new}
use Rattle.base_library.proofs.Kept.{with_new-append}
use Rattle.base_library.proofs.Options.{some_mapped}
use Rattle.base_library.proofs.Places.{slice_get_push, slice_get_grown, slice_get-behind}
use Rattle.std.specs.Int.{bit_at}
use Rattle.ltl_formula.specs.Cubes.{has_bit}
use Rattle.machines.specs.MachineTree.{EntryTree}
use Rattle.control_flow_model.specs.DecisionTree.{DecisionTree, leaf, fork, same_entry, same_decision, forked, decision_tree, subtrees}
use Rattle.control_flow_model.proofs.NewMembers.{one_more, stays, stands}

-- ---- equality

pub same_entry_is : (e f : EntryTree) → same_entry e f ≡ true → e ≡ f
same_entry_is e f same =
    let parts = and_parts (bytes_eq e.choices f.choices) (e.next == f.next) same in
    let choices : e.choices ≡ f.choices = (bytes_eq-Decides e.choices f.choices).0 parts.0 in
    let next : e.next ≡ f.next = eqb-true e.next f.next parts.1 in
    λ i. record { choices = choices i; next = next i }

pub entry_itself : (e : EntryTree) → same_entry e e ≡ true
entry_itself e = rw ((bytes_eq-Decides e.choices e.choices).1 refl, eq-eqb e.next e.next refl) refl

pub same_decision_is : (d t : DecisionTree) → same_decision d t ≡ true → d ≡ t
same_decision_is (leaf e) (leaf f) same = ap leaf (same_entry_is e f same)
same_decision_is (leaf e) (fork m x y) same = absurd (false≢true same)
same_decision_is (fork n a b) (leaf f) same = absurd (false≢true same)
same_decision_is (fork n a b) (fork m x y) same =
    let first = and_parts (n == m) (same_decision a x && same_decision b y) same in
    let second = and_parts (same_decision a x) (same_decision b y) first.1 in
    let bits : n ≡ m = eqb-true n m first.0 in
    let left = same_decision_is a x second.0 in
    let right = same_decision_is b y second.1 in
    λ i. fork (bits i) (left i) (right i)

pub decision_itself : (d : DecisionTree) → same_decision d d ≡ true
decision_itself (leaf e) = entry_itself e
decision_itself (fork n a b) = rw (eq-eqb n n refl, decision_itself a, decision_itself b) refl

-- ---- what a tree finds

-- the entry at the end of a valuation's way
abbrev pub entry_found : DecisionTree → ℕ → EntryTree
entry_found (leaf e) v = e
entry_found (fork bit a b) v = cond (has_bit bit v) (entry_found a v) (entry_found b v)

found_of_forked : (bit v : ℕ) (a b : DecisionTree) →
    entry_found (forked bit a b) v ≡ cond (has_bit bit v) (entry_found a v) (entry_found b v)
found_of_forked bit v a b = by (same_decision a b) refl
  where
    either : (holds : Bool) (x y : EntryTree) → x ≡ y → x ≡ cond holds x y
    either true x y equal = refl
    either false x y equal = equal

    by : (same : Bool) → same_decision a b ≡ same →
        entry_found (cond same a (fork bit a b)) v ≡ cond (has_bit bit v) (entry_found a v) (entry_found b v)
    by true equal =
        either (has_bit bit v) (entry_found a v) (entry_found b v) (ap (λ d. entry_found d v) (same_decision_is a b equal))
    by false differ = refl

-- the two trees of a tree of one bit more
pub record AreBranches (entries : ℕ → Option EntryTree) (count bit valuation : ℕ) (d : DecisionTree) : Type 0 where
  pub yes_tree : DecisionTree
  pub no_tree : DecisionTree
  pub is_yes : decision_tree entries count (suc bit) (valuation + 2 ^ bit) ≡ Some yes_tree
  pub is_no : decision_tree entries count (suc bit) valuation ≡ Some no_tree
  pub all : forked bit yes_tree no_tree ≡ d

pub branches_of : (entries : ℕ → Option EntryTree) (count bit valuation : ℕ) (d : DecisionTree) →
    decision_tree entries (suc count) bit valuation ≡ Some d → AreBranches entries count bit valuation d
branches_of entries count bit valuation d is = option_and_then_some _ _ _ is (λ a at rest.
    let other = some_mapped (forked bit a) (decision_tree entries count (suc bit) valuation) d rest in
    record { yes_tree = a; no_tree = other.0; is_yes = at; is_no = other.1; all = other.2 })

nothing_before : (p low : ℕ) → 0 * p + low ≡ low
nothing_before p low = omega arith

odd_product : (h p low : ℕ) → h * (p * 2) + (low + p) ≡ (2 * h + 1) * p + low
odd_product h p low = omega arith

even_product : (h p low : ℕ) → h * (p * 2) + low ≡ (2 * h) * p + low
even_product h p low = omega arith

odd_place : (high p q low : ℕ) → q ≡ p * 2 → high % 2 ≡ 1 → high / 2 * q + (low + p) ≡ high * p + low
odd_place high p q low double rest =
    let whole : 2 * (high / 2) + 1 ≡ high = omega (arith, rest) in
    ap (λ n. high / 2 * n + (low + p)) double ∙ odd_product (high / 2) p low ∙ ap (λ n. n * p + low) whole

even_place : (high p q low : ℕ) → q ≡ p * 2 → (high % 2 == 1) ≡ false → high / 2 * q + low ≡ high * p + low
even_place high p q low double rest =
    let whole : 2 * (high / 2) ≡ high = omega (arith, eqb-false (high % 2) 1 rest) in
    ap (λ n. high / 2 * n + low) double ∙ even_product (high / 2) p low ∙ ap (λ n. n * p + low) whole

pub finds : (entries : ℕ → Option EntryTree) (count bit low : ℕ) (d : DecisionTree) → low < 2 ^ bit →
    decision_tree entries count bit low ≡ Some d → (high : ℕ) → high < 2 ^ count →
    entries (high * 2 ^ bit + low) ≡ Some (entry_found d (high * 2 ^ bit + low))
finds entries zero bit low d below is high within =
    let end = some_mapped leaf (entries low) d is in
    let none : high ≡ 0 = omega arith in
    let place : high * 2 ^ bit + low ≡ low = ap (λ n. n * 2 ^ bit + low) none ∙ nothing_before (2 ^ bit) low in
    ap entries place ∙ end.1 ∙ ap (λ t. Some (entry_found t (high * 2 ^ bit + low))) end.2
finds entries (suc count) bit low d below is high within =
    let branches = branches_of entries count bit low d is in
    let half : high / 2 < 2 ^ count = omega (arith, within, pow-suc 2 count) in
    let more : low + 2 ^ bit < 2 ^ suc bit = omega (arith, below, pow-suc 2 bit) in
    let less : low < 2 ^ suc bit = omega (arith, below, pow-suc 2 bit) in
    by branches (finds entries count (suc bit) (low + 2 ^ bit) branches.yes_tree more branches.is_yes (high / 2) half)
    (finds entries count (suc bit) low branches.no_tree less branches.is_no (high / 2) half) (high % 2 == 1) refl
  where
    v : ℕ
    v = high * 2 ^ bit + low

    tested : has_bit bit v ≡ (high % 2 == 1)
    tested =
        ap (λ n. n == 1) (bit_at_cat_high high bit low bit below (omega arith) ∙ lowest (bit - bit) (omega arith))
      where
        lowest : (k : ℕ) → k ≡ 0 → bit_at high k ≡ high % 2
        lowest k zeroth = ap (bit_at high) zeroth ∙ bit_at_lowest high

    by : (branches : AreBranches entries count bit low d) →
        entries (high / 2 * 2 ^ suc bit + (low + 2 ^ bit))
        ≡ Some (entry_found branches.yes_tree (high / 2 * 2 ^ suc bit + (low + 2 ^ bit))) →
        entries (high / 2 * 2 ^ suc bit + low) ≡ Some (entry_found branches.no_tree (high / 2 * 2 ^ suc bit + low)) →
        (b : Bool) → (high % 2 == 1) ≡ b → entries v ≡ Some (entry_found d v)
    by branches left right true odd =
        let place : high / 2 * 2 ^ suc bit + (low + 2 ^ bit) ≡ v = odd_place high (2 ^ bit) (2 ^ suc bit) low (pow-suc 2 bit)
        (eqb-true (high % 2) 1 odd) in
        subst (λ n. entries n ≡ Some (entry_found branches.yes_tree n)) place left
        ∙ ap (λ b. Some (cond b (entry_found branches.yes_tree v) (entry_found branches.no_tree v))) (sym (tested ∙ odd))
        ∙ ap Some (sym (found_of_forked bit v branches.yes_tree branches.no_tree))
        ∙ ap (λ t. Some (entry_found t v)) branches.all
    by branches left right false even =
        let place : high / 2 * 2 ^ suc bit + low ≡ v = even_place high (2 ^ bit) (2 ^ suc bit) low (pow-suc 2 bit) even in
        subst (λ n. entries n ≡ Some (entry_found branches.no_tree n)) place right
        ∙ ap (λ b. Some (cond b (entry_found branches.yes_tree v) (entry_found branches.no_tree v))) (sym (tested ∙ even))
        ∙ ap Some (sym (found_of_forked bit v branches.yes_tree branches.no_tree))
        ∙ ap (λ t. Some (entry_found t v)) branches.all

-- ---- what a tree is made of

-- a tree stands last
pub last_of_subtrees : (d : DecisionTree) → (j : ℕ) × (slice_get (subtrees d) j ≡ Some d)
last_of_subtrees (leaf e) = (0, refl)
last_of_subtrees (fork bit a b) = (
  length (subtrees a ++ subtrees b),
  ap (λ ts. slice_get ts (length (subtrees a ++ subtrees b))) (sym (append_assoc (subtrees a) (subtrees b) (fork bit a b ∷ [])))
      ∙ slice_get-behind (subtrees a ++ subtrees b) (fork bit a b) [],
)

few_of_forked : (bit most : ℕ) (a b : DecisionTree) → length (subtrees a) < most → length (subtrees b) < most →
    length (subtrees (forked bit a b)) < 2 * most
few_of_forked bit most a b left right = by (same_decision a b)
  where
    by : (same : Bool) → length (subtrees (cond same a (fork bit a b))) < 2 * most
    by true = omega (arith, left)
    by false =
        let second = length-append (subtrees b) (fork bit a b ∷ []) in
        let first = length-append (subtrees a) (subtrees b ++ fork bit a b ∷ []) in
        omega (arith, left, right, first, second)

pub few_subtrees : (entries : ℕ → Option EntryTree) (count bit valuation : ℕ) (d : DecisionTree) →
    decision_tree entries count bit valuation ≡ Some d → length (subtrees d) < 2 * 2 ^ count
few_subtrees entries zero bit valuation d is =
    let end = some_mapped leaf (entries valuation) d is in
    let few : length (subtrees (leaf end.0)) < 2 * 2 ^ 0 = omega arith in
    subst (λ t. length (subtrees t) < 2 * 2 ^ 0) end.2 few
few_subtrees entries (suc count) bit valuation d is =
    let branches = branches_of entries count bit valuation d is in
    let left = few_subtrees entries count (suc bit) (valuation + 2 ^ bit) branches.yes_tree branches.is_yes in
    let right = few_subtrees entries count (suc bit) valuation branches.no_tree branches.is_no in
    let few = few_of_forked bit (2 * 2 ^ count) branches.yes_tree branches.no_tree left right in
    subst (λ t. length (subtrees t) < 2 * 2 ^ suc count) branches.all (omega (arith, few, pow-suc 2 count))

-- ---- the lists of trees that become nodes

-- the branches of a fork stand before it
abbrev pub IsOrdered : List DecisionTree → Type 0
IsOrdered trees = (i bit : ℕ) (a b : DecisionTree) → slice_get trees i ≡ Some (fork bit a b) →
    ((j : ℕ) × (j < i) × (slice_get trees j ≡ Some a)) × ((k : ℕ) × (k < i) × (slice_get trees k ≡ Some b))

pub tree_stands : (trees : List DecisionTree) (d : DecisionTree) →
    (i : ℕ) × (slice_get (with_new same_decision trees (subtrees d)) i ≡ Some d)
tree_stands trees d =
    let last = last_of_subtrees d in
    stands same_decision same_decision_is decision_itself trees (subtrees d) last.0 d last.1

-- the trees of both branches, and then the fork
pub fork_parts : (trees : List DecisionTree) (bit : ℕ) (a b : DecisionTree) →
    with_new same_decision trees (subtrees (fork bit a b))
    ≡ with_new same_decision (with_new same_decision (with_new same_decision trees (subtrees a)) (subtrees b)) (fork bit a b ∷ [])
fork_parts trees bit a b =
    sym (with_new-append same_decision trees (subtrees a) (subtrees b ++ fork bit a b ∷ []))
    ∙ sym (with_new-append same_decision (with_new same_decision trees (subtrees a)) (subtrees b) (fork bit a b ∷ []))

ordered_push : (trees : List DecisionTree) (d : DecisionTree) → IsOrdered trees →
    ((bit : ℕ) (a b : DecisionTree) → d ≡ fork bit a b →
    ((j : ℕ) × (slice_get trees j ≡ Some a)) × ((k : ℕ) × (slice_get trees k ≡ Some b))) →
    IsOrdered (trees ++ d ∷ [])
ordered_push trees d ordered branches i bit a b at = elim (slice_get_push trees d i (fork bit a b) at) [
  | inl before ↦
      let have = ordered i bit a b before.1 in (
        (have.0.0, have.0.1, slice_get_grown trees (d ∷ []) have.0.0 a have.0.2),
        (have.1.0, have.1.1, slice_get_grown trees (d ∷ []) have.1.0 b have.1.2),
      )
  | inr last ↦
      let have = branches bit a b last.1 in (
        (
          have.0.0,
          omega (arith, last.0, slice_get_within trees have.0.0 a have.0.1),
          slice_get_grown trees (d ∷ []) have.0.0 a have.0.1,
        ),
        (
          have.1.0,
          omega (arith, last.0, slice_get_within trees have.1.0 b have.1.1),
          slice_get_grown trees (d ∷ []) have.1.0 b have.1.1,
        ),
      )
]

pub ordered_more : (trees : List DecisionTree) (d : DecisionTree) → IsOrdered trees → IsOrdered (with_new same_decision trees (subtrees d))
ordered_more trees (leaf e) ordered =
    one_more same_decision IsOrdered trees (leaf e) (λ _. ordered)
    (λ _. ordered_push trees (leaf e) ordered (λ bit a b is. absurd cc))
ordered_more trees (fork bit a b) ordered =
    let first = with_new same_decision trees (subtrees a) in
    let second = with_new same_decision first (subtrees b) in
    let a_there = tree_stands trees a in
    let b_there = tree_stands first b in
    let both : IsOrdered second = ordered_more first b (ordered_more trees a ordered) in
    subst IsOrdered (sym (fork_parts trees bit a b))
    (one_more same_decision IsOrdered second (fork bit a b) (λ _. both)
    (λ _. ordered_push second (fork bit a b) both (λ bit' a' b' is.
    let left : a ≡ a' = cc in
    let right : b ≡ b' = cc in (
      (a_there.0, stays same_decision first (subtrees b) a_there.0 a' (a_there.1 ∙ ap Some left)),
      (b_there.0, b_there.1 ∙ ap Some right),
    ))))

pub all_ordered : (trees ds : List DecisionTree) → IsOrdered trees → IsOrdered (with_new same_decision trees (flat_map subtrees ds))
all_ordered trees [] ordered = ordered
all_ordered trees (d ∷ ds) ordered =
    subst IsOrdered (with_new-append same_decision trees (subtrees d) (flat_map subtrees ds))
    (all_ordered (with_new same_decision trees (subtrees d)) ds (ordered_more trees d ordered))

pub all_stand : (trees ds : List DecisionTree) (i : ℕ) (d : DecisionTree) → slice_get ds i ≡ Some d →
    (j : ℕ) × (slice_get (with_new same_decision trees (flat_map subtrees ds)) j ≡ Some d)
all_stand trees [] i d at = absurd (none-some d at)
all_stand trees (t ∷ ds) zero d at =
    let here = tree_stands trees t in (
      here.0,
      ap (λ ts. slice_get ts here.0) (sym (with_new-append same_decision trees (subtrees t) (flat_map subtrees ds)))
          ∙ stays same_decision (with_new same_decision trees (subtrees t)) (flat_map subtrees ds) here.0 d
          (here.1 ∙ ap Some (same_Some t d at)),
    )
all_stand trees (t ∷ ds) (suc i) d at =
    let later = all_stand (with_new same_decision trees (subtrees t)) ds i d at in (
      later.0,
      ap (λ ts. slice_get ts later.0) (sym (with_new-append same_decision trees (subtrees t) (flat_map subtrees ds))) ∙ later.1,
    )

-- they are few where each tree is made of few
pub few_joined : (ds : List DecisionTree) (most : ℕ) → AllByRecursion (λ d. length (subtrees d) ≤ most) ds →
    length (flat_map subtrees ds) ≤ length ds * most
few_joined [] most each = omega arith
few_joined (d ∷ ds) most each =
    omega (arith, each.0, few_joined ds most each.1, length-append (subtrees d) (flat_map subtrees ds), one_product (length ds) most)
  where
    one_product : (n m : ℕ) → suc n * m ≡ m + n * m
    one_product n m = omega arith
