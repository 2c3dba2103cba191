-- Joining two classes of shapes that are the same by classes.
use Rattle.std.proofs.Common.{◌≡◌, ◌≢◌, ◌∙◌, ℕ, zero, suc, ◌+◌, ◌<◌, ◌≤◌, ◌==◌, ◌⊎◌, Bool, true, false, List, [], ◌∷◌, ◌++◌, length, map}
use Rattle.std.proofs.Common.{Some, slice_get, get_or, min, max, refl, sym, ap, subst, arith, inl, inr, eq-eqb}
use Rattle.std.specs.List.{AllByRecursion, sum_by}
use Rattle.std.proofs.lemmas.Bool.Decides.{eqb_tells}
use Rattle.std.proofs.lemmas.Bool.{cases_lt}
use Rattle.std.proofs.lemmas.List.Sums.{sum_by-cons}
use Rattle.std.proofs.lemmas.Option.{slice_get_within}
use Rattle.base_library.proofs.Lists.{heads, tails}
use Rattle.base_library.proofs.Each.{each_at, each_joined, each_left, each_between}
use Rattle.std.specs.Prelude.{option_map}
use Rattle.std.proofs.Common.{take, add-one}
use Rattle.std.proofs.lemmas.Option.{slice_get-map, slice_get-get_or}
use Rattle.std.proofs.lemmas.List.{map_push}
use Rattle.base_library.proofs.Places.{take_next}
use Rattle.term_congruence.specs.declared.closing.LabelPair.{LabelPair}
use Rattle.term_congruence.specs.internal.PairView.{pair_tree}
use Rattle.term_congruence.specs.internal.Shapes.{ShapeTree, leaf_shape, applied_shape}
use Rattle.term_congruence.specs.internal.Closing.{AllOne, IsEquivalence, IsAllowed, AreBelow, StayJoined, IsClosed, IsApart, AreClasses, HasPartsBelow, IsJoined, moved, by_classes}
use Rattle.term_congruence.specs.internal.Closing.{LabelPairTree, AreSmallest, AreOwn, ArePairsJoined, IsPairBelow}

same_arguments : (f g : ℕ) (ls ms : List ℕ) → applied_shape f ls ≡ applied_shape g ms → ls ≡ ms
same_arguments f g ls ms e = cc

same_function : (f g : ℕ) (ls ms : List ℕ) → applied_shape f ls ≡ applied_shape g ms → f ≡ g
same_function f g ls ms e = cc

no_leaf : (s t f : ℕ) (ls : List ℕ) → leaf_shape s t ≡ applied_shape f ls → ⊥
no_leaf s t f ls e = cc

module _ (shapes : List ShapeTree) (classes : List ℕ) (R : ℕ → ℕ → Bool) (allowed : IsAllowed shapes R) (below : AreBelow classes R) where
  -- parts that are the same by classes are pairwise in the relation
  parts_in : (ls ms : List ℕ) → AllByRecursion (λ l. l < length classes) ls → AllByRecursion (λ l. l < length classes) ms →
      map (λ l. get_or classes l 0) ls ≡ map (λ l. get_or classes l 0) ms → AllOne R ls ms
  parts_in [] [] of_l of_m e = tt
  parts_in [] (m ∷ ms) of_l of_m e = cc
  parts_in (l ∷ ls) [] of_l of_m e = cc
  parts_in (l ∷ ls) (m ∷ ms) of_l of_m e =
      (below l m of_l.0 of_m.0 (heads _ _ _ _ e), parts_in ls ms of_l.1 of_m.1 (tails _ _ _ _ e))

  -- and so are shapes
  shapes_in : (i j : ℕ) (x y : ShapeTree) → slice_get shapes i ≡ Some x → slice_get shapes j ≡ Some y →
      HasPartsBelow (length classes) x → HasPartsBelow (length classes) y → by_classes classes x ≡ by_classes classes y → R i j ≡ true
  shapes_in i j (leaf_shape s t) (leaf_shape r u) is_x is_y of_x of_y alike =
      allowed.alike i j (leaf_shape s t) is_x (is_y ∙ ap Some (sym alike))
  shapes_in i j (leaf_shape s t) (applied_shape g ms) is_x is_y of_x of_y alike = absurd (no_leaf _ _ _ _ alike)
  shapes_in i j (applied_shape f ls) (leaf_shape r u) is_x is_y of_x of_y alike = absurd (no_leaf _ _ _ _ (sym alike))
  shapes_in i j (applied_shape f ls) (applied_shape g ms) is_x is_y of_x of_y alike =
      let function : f ≡ g = same_function _ _ _ _ alike in
      allowed.parts i j f ls ms is_x (is_y ∙ ap (λ h. Some (applied_shape h ms)) (sym function))
      (parts_in ls ms of_x of_y (same_arguments _ _ _ _ alike))

module _ (classes : List ℕ) (R : ℕ → ℕ → Bool) (same_as : IsEquivalence R) (below : AreBelow classes R) where
  -- where two labels are in the relation, joining their classes keeps those in one class in it
  pub join_below : (new : List ℕ) (from to i j : ℕ) → i < length classes → j < length classes → get_or classes i 0 ≡ from →
      get_or classes j 0 ≡ to → R i j ≡ true → IsJoined classes new from to → AreBelow new R
  join_below new from to i j in_i in_j is_from is_to one joined m n in_m in_n same =
      let within_m : m < length classes = omega (arith, joined.long, in_m) in
      let within_n : n < length classes = omega (arith, joined.long, in_n) in
      by within_m within_n (eqb_tells (get_or classes m 0) from) (eqb_tells (get_or classes n 0) from)
      (sym (joined.each m within_m) ∙ same ∙ joined.each n within_n)
    where
      by : m < length classes → n < length classes →
          (((get_or classes m 0 == from) ≡ true) × (get_or classes m 0 ≡ from)) ⊎
          (((get_or classes m 0 == from) ≡ false) × (get_or classes m 0 ≢ from)) →
          (((get_or classes n 0 == from) ≡ true) × (get_or classes n 0 ≡ from)) ⊎
          (((get_or classes n 0 == from) ≡ false) × (get_or classes n 0 ≢ from)) →
          moved from to (get_or classes m 0) ≡ moved from to (get_or classes n 0) → R m n ≡ true
      by wm wn (inl p) (inl q) e = below m n wm wn (p.1 ∙ sym q.1)
      by wm wn (inl p) (inr q) e =
          same_as.through m i n (below m i wm in_i (p.1 ∙ sym is_from))
          (same_as.through i j n one (below j n in_j wn (is_to ∙ (rw (p.0, q.0) at e))))
      by wm wn (inr p) (inl q) e =
          same_as.through m j n (below m j wm in_j ((rw (p.0, q.0) at e) ∙ sym is_to))
          (same_as.through j i n (same_as.turned i j one) (below i n in_i wn (is_from ∙ sym q.1)))
      by wm wn (inr p) (inr q) e = below m n wm wn (rw (p.0, q.0) at e)

-- what was in one class stays so
pub join_stays : (old new : List ℕ) (from to : ℕ) → IsJoined old new from to → StayJoined old new
join_stays old new from to joined = (
  joined.long,
  λ i j in_i in_j same. joined.each i in_i ∙ ap (moved from to) same ∙ sym
      (joined.each j in_j),
)

pub stays_itself : (classes : List ℕ) → StayJoined classes classes
stays_itself classes = (refl, λ i j in_i in_j same. same)

pub stays_on : (a b c : List ℕ) → StayJoined a b → StayJoined b c → StayJoined a c
stays_on a b c first second = (
  second.0 ∙ first.0,
  λ i j in_i in_j same. second.1 i j (omega (arith, first.0, in_i)) (omega (arith, first.0, in_j)) (first.1 i j in_i in_j same),
)

pub still_classes : (shapes : List ShapeTree) (old new : List ℕ) → length new ≡ length old → AreClasses shapes old → AreClasses shapes new
still_classes shapes old new long is = record { long = long ∙ is.long; within = is.within }

-- the classes of two shapes that are the same by classes may be joined
pub apart_below : (shapes : List ShapeTree) (classes new : List ℕ) (one other from to : ℕ) → AreClasses shapes classes →
    IsApart shapes classes one other → ((from ≡ one) × (to ≡ other)) ⊎ ((from ≡ other) × (to ≡ one)) → IsJoined classes new from to →
    (R : ℕ → ℕ → Bool) → IsAllowed shapes R → AreBelow classes R → AreBelow new R
apart_below shapes classes new one other from to are apart order joined R allowed below = by order
  where
    in_i : apart.i < length classes
    in_i = let w : apart.i < length shapes = slice_get_within shapes apart.i apart.x apart.is_x in omega (arith, w, are.long)

    in_j : apart.j < length classes
    in_j = let w : apart.j < length shapes = slice_get_within shapes apart.j apart.y apart.is_y in omega (arith, w, are.long)

    of : (k : ℕ) (z : ShapeTree) → slice_get shapes k ≡ Some z → HasPartsBelow (length classes) z
    of k z at = subst (λ n. HasPartsBelow n z) (sym are.long) (each_at (HasPartsBelow (length shapes)) shapes k z are.within at)

    one_in : R apart.i apart.j ≡ true
    one_in = shapes_in shapes classes R allowed below apart.i apart.j apart.x apart.y apart.is_x apart.is_y (of apart.i apart.x apart.is_x)
        (of apart.j apart.y apart.is_y) apart.alike

    by : ((from ≡ one) × (to ≡ other)) ⊎ ((from ≡ other) × (to ≡ one)) → AreBelow new R
    by (inl p) = join_below classes R allowed.equivalence below new from to apart.i apart.j in_i in_j (apart.in_a ∙ sym p.0)
        (apart.in_b ∙ sym p.1) one_in joined
    by (inr p) = join_below classes R allowed.equivalence below new from to apart.j apart.i in_j in_i (apart.in_b ∙ sym p.0)
        (apart.in_a ∙ sym p.1) (allowed.equivalence.turned apart.i apart.j one_in) joined

-- the sum of a list
abbrev pub total : List ℕ → ℕ
total xs = sum_by (λ c. c) xs

-- the sum of classes that are no larger, of which one is smaller
at_most : (xs ys : List ℕ) → length ys ≡ length xs → ((i : ℕ) → i < length xs → get_or ys i 0 ≤ get_or xs i 0) → total ys ≤ total xs
at_most [] [] long each = omega arith
at_most [] (y ∷ ys) long each = cc
at_most (x ∷ xs) [] long each = cc
at_most (x ∷ xs) (y ∷ ys) long each =
    let rest = at_most xs ys (omega (arith, long)) (λ i within. each (suc i) (omega (arith, within))) in
    let here : y ≤ x = each 0 (omega arith) in
    rw (sum_by-cons (λ c. c) x xs, sum_by-cons (λ c. c) y ys) (omega (arith, rest, here))

less : (xs ys : List ℕ) (k : ℕ) → length ys ≡ length xs → ((i : ℕ) → i < length xs → get_or ys i 0 ≤ get_or xs i 0) →
    k < length xs → get_or ys k 0 < get_or xs k 0 → total ys < total xs
less [] ys k long each within smaller = omega (arith, within)
less (x ∷ xs) [] k long each within smaller = cc
less (x ∷ xs) (y ∷ ys) zero long each within smaller =
    let rest = at_most xs ys (omega (arith, long)) (λ i w. each (suc i) (omega (arith, w))) in
    rw (sum_by-cons (λ c. c) x xs, sum_by-cons (λ c. c) y ys) (omega (arith, rest, smaller))
less (x ∷ xs) (y ∷ ys) (suc k) long each within smaller =
    let rest = less xs ys k (omega (arith, long)) (λ i w. each (suc i) (omega (arith, w))) (omega (arith, within)) smaller in
    let here : y ≤ x = each 0 (omega arith) in
    rw (sum_by-cons (λ c. c) x xs, sum_by-cons (λ c. c) y ys) (omega (arith, rest, here))

moved_down : (from to c : ℕ) → to ≤ from → moved from to c ≤ c
moved_down from to c down = elim (eqb_tells c from) [
  | inl p ↦ rw p.0 (omega (arith, p.1, down))
  | inr p ↦ rw p.0 (omega arith)
]

pub join_lowers : (classes new : List ℕ) (from to k : ℕ) → IsJoined classes new from to → to < from → k < length classes →
    get_or classes k 0 ≡ from → total new < total classes
join_lowers classes new from to k joined down within is =
    less classes new k joined.long (λ i w. rw (joined.each i w) (moved_down from to (get_or classes i 0) (omega (arith, down)))) within
    (rw (joined.each k within, is, eq-eqb from from refl) down)

-- the larger and the smaller one of two numbers
pub ordered : (one other from to : ℕ) → from ≡ max one other → to ≡ min one other →
    ((from ≡ one) × (to ≡ other)) ⊎ ((from ≡ other) × (to ≡ one))
ordered one other from to is_from is_to = elim (cases_lt one other) [
  | inl p ↦ inr (omega (arith, p, is_from), omega (arith, p, is_to))
  | inr p ↦ inl (omega (arith, p, is_from), omega (arith, p, is_to))
]

pub lowered : (shapes : List ShapeTree) (classes new : List ℕ) (one other from to : ℕ) → AreClasses shapes classes →
    IsApart shapes classes one other → from ≡ max one other → to ≡ min one other → IsJoined classes new from to → total new < total classes
lowered shapes classes new one other from to are apart is_from is_to joined = by (ordered one other from to is_from is_to)
  where
    down : to < from
    down = let differ : one ≢ other = apart.differ in omega (arith, differ, is_from, is_to)

    by : ((from ≡ one) × (to ≡ other)) ⊎ ((from ≡ other) × (to ≡ one)) → total new < total classes
    by (inl p) = join_lowers classes new from to apart.i joined down
        (let w : apart.i < length shapes = slice_get_within shapes apart.i apart.x apart.is_x in omega (arith, w, are.long))
        (apart.in_a ∙ sym p.0)
    by (inr p) = join_lowers classes new from to apart.j joined down
        (let w : apart.j < length shapes = slice_get_within shapes apart.j apart.y apart.is_y in omega (arith, w, are.long))
        (apart.in_b ∙ sym p.0)

-- ---- pairs of labels

pub no_pairs : (classes : List ℕ) → ArePairsJoined [] classes classes
no_pairs classes = record { stay = stays_itself classes; listed = tt; below = λ R same_as are start. start }

pub one_pair : (pairs : List LabelPairTree) (p : LabelPairTree) (old before new : List ℕ) (from to : ℕ) → ArePairsJoined pairs old before →
    AllByRecursion (IsPairBelow (length old)) pairs → IsPairBelow (length old) p →
    get_or before p.left 0 ≡ from → get_or before p.right 0 ≡ to → IsJoined before new from to → ArePairsJoined (pairs ++ p ∷ []) old new
one_pair pairs p old before new from to joined within here is_from is_to now = record {
  stay = stays_on old before new joined.stay stays;
  listed = each_joined (λ q. get_or new q.left 0 ≡ get_or new q.right 0) pairs (p ∷ []) (still pairs within joined.listed) (one, tt);
  below = λ R same_as are start.
      join_below before R same_as
      (joined.below R same_as (each_left (λ q. R q.left q.right ≡ true) pairs
      (p ∷ []) are) start) new from to p.left p.right in_left in_right is_from is_to
      (each_between (λ q. R q.left q.right ≡ true) pairs p [] are) now;
}
  where
    stays : StayJoined before new
    stays = join_stays before new from to now

    in_left : p.left < length before
    in_left = omega (arith, here.0, joined.stay.0)

    in_right : p.right < length before
    in_right = omega (arith, here.1, joined.stay.0)

    one : get_or new p.left 0 ≡ get_or new p.right 0
    one = now.each p.left in_left ∙ rw (is_from, eq-eqb from from refl) (sym (now.each p.right in_right ∙ rw is_to (already from to)))
      where
        already : (a b : ℕ) → moved a b b ≡ b
        already a b = elim (eqb_tells b a) [
          | inl q ↦ rw q.0 refl
          | inr q ↦ rw q.0 refl
        ]

    still : (ps : List LabelPairTree) → AllByRecursion (IsPairBelow (length old)) ps →
        AllByRecursion (λ q. get_or before q.left 0 ≡ get_or before q.right 0) ps → AllByRecursion
        (λ q. get_or new q.left 0 ≡ get_or new q.right 0) ps
    still [] of are = tt
    still (q ∷ qs) of are = (
      stays.1 q.left q.right (let w : q.left < length old = of.0.0 in omega (arith, w, joined.stay.0))
          (let w : q.right < length old = of.0.1 in omega (arith, w, joined.stay.0)) are.0,
      still qs of.1 are.1,
    )

-- at first only equal labels are in one class
pub own_below : (count : ℕ) (classes : List ℕ) (R : ℕ → ℕ → Bool) → AreOwn count classes → IsEquivalence R → AreBelow classes R
own_below count classes R are same_as i j in_i in_j same =
    let is_i : get_or classes i 0 ≡ i = are.own i (omega (arith, are.long, in_i)) in
    let is_j : get_or classes j 0 ≡ j = are.own j (omega (arith, are.long, in_j)) in
    subst (λ k. R i k ≡ true) (sym is_i ∙ same ∙ is_j) (same_as.itself i)

pub smallest : (shapes : List ShapeTree) (pairs : List LabelPairTree) (first joined last : List ℕ) → AreOwn (length shapes) first →
    ArePairsJoined pairs first joined → AllByRecursion (IsPairBelow (length shapes)) pairs → StayJoined joined last → IsClosed shapes last →
    ((R : ℕ → ℕ → Bool) → IsAllowed shapes R → AreBelow joined R → AreBelow last R) → AreSmallest shapes pairs last
smallest shapes pairs first joined last own are within stay closed below = record {
  long = stay.0 ∙ are.stay.0 ∙ own.long;
  listed = still pairs within are.listed;
  closed = closed;
  below = λ R allowed listed. below R allowed (are.below R allowed.equivalence listed
      (own_below (length shapes) first R own allowed.equivalence));
}
  where
    still : (ps : List LabelPairTree) → AllByRecursion (IsPairBelow (length shapes)) ps →
        AllByRecursion (λ q. get_or joined q.left 0 ≡ get_or joined q.right 0) ps → AllByRecursion
        (λ q. get_or last q.left 0 ≡ get_or last q.right 0) ps
    still [] of listed = tt
    still (q ∷ qs) of listed = (
      stay.1 q.left q.right (let w : q.left < length shapes = of.0.0 in omega (arith, w, are.stay.0, own.long))
          (let w : q.right < length shapes = of.0.1 in omega (arith, w, are.stay.0, own.long)) listed.0,
      still qs of.1 listed.1,
    )

-- ---- pairs in memory

pub pair_at : (pairs : List LabelPair) (i : ℕ) (d : LabelPair) → i < length pairs →
    slice_get (map pair_tree pairs) i ≡ Some (pair_tree (get_or pairs i d))
pair_at pairs i d within = slice_get-map pair_tree pairs i ∙ ap (option_map pair_tree) (slice_get-get_or pairs i d within)

pub pair_below : (n : ℕ) (pairs : List LabelPair) (i : ℕ) (d : LabelPair) → i < length pairs →
    AllByRecursion (IsPairBelow n) (map pair_tree pairs) → IsPairBelow n (pair_tree (get_or pairs i d))
pair_below n pairs i d within all = each_at (IsPairBelow n) (map pair_tree pairs) i _ all (pair_at pairs i d within)

pub pairs_taken : (n : ℕ) (pairs : List LabelPair) (i : ℕ) → AllByRecursion (IsPairBelow n) (map pair_tree pairs) →
    AllByRecursion (IsPairBelow n) (map pair_tree (take i pairs))
pairs_taken n pairs zero all = tt
pairs_taken n [] (suc i) all = tt
pairs_taken n (p ∷ pairs) (suc i) all = (all.0, pairs_taken n pairs i all.1)

pub next_pair : (pairs : List LabelPair) (i : ℕ) (d : LabelPair) → i < length pairs →
    map pair_tree (take (i + 1) pairs) ≡ map pair_tree (take i pairs) ++ pair_tree (get_or pairs i d) ∷ []
next_pair pairs i d within =
    rw add-one (ap (map pair_tree) (take_next pairs i (get_or pairs i d) (slice_get-get_or pairs i d within)) ∙ map_push pair_tree
    (take i pairs) (get_or pairs i d))

pub left_inside : (old new : List ℕ) (pairs : List LabelPair) (i : ℕ) (d : LabelPair) → i < length pairs → length new ≡ length old →
    AllByRecursion (IsPairBelow (length old)) (map pair_tree pairs) → (get_or pairs i d).left < length new
left_inside old new pairs i d within same all =
    let w : (get_or pairs i d).left < length old = (pair_below (length old) pairs i d within all).0 in omega (arith, w, same)

pub right_inside : (old new : List ℕ) (pairs : List LabelPair) (i : ℕ) (d : LabelPair) → i < length pairs → length new ≡ length old →
    AllByRecursion (IsPairBelow (length old)) (map pair_tree pairs) → (get_or pairs i d).right < length new
right_inside old new pairs i d within same all =
    let w : (get_or pairs i d).right < length old = (pair_below (length old) pairs i d within all).1 in omega (arith, w, same)
