-- Shapes by classes that are found one after the other.
use Rattle.std.proofs.Common.{◌≡◌, ◌≢◌, ◌∙◌, ℕ, ◌+◌, ◌<◌, ◌≤◌, ◌⊎◌, List, [], ◌∷◌, ◌++◌, length}
use Rattle.std.proofs.Common.{Some, slice_get, get_or, refl, sym, ap, subst, arith, inl, inr}
use Rattle.std.proofs.lemmas.Option.{slice_get_within, none-some, same_Some, slice_get_read}
use Rattle.std.proofs.lemmas.List.{length_push}
use Rattle.base_library.proofs.Places.{slice_get_push, slice_get_grown, slice_get-behind, slice_get_one}
use Rattle.std.specs.Prelude.{option_map}
use Rattle.std.proofs.lemmas.Option.{slice_get-map}
use Rattle.term_congruence.specs.declared.shapes.Shape.{Shape}
use Rattle.term_congruence.specs.internal.Shapes.{ShapeTree}
use Rattle.term_congruence.specs.internal.ShapeView.{shape_tree, shape_trees}
use Rattle.term_congruence.specs.internal.Closing.{IsClosed, IsApart, IsPlaced, AreKeysFound, by_classes}

module _ (shapes : List ShapeTree) (classes : List ℕ) where
  pub none_found : AreKeysFound shapes classes 0 [] []
  none_found = record {
    long = refl;
    once = λ i j x at_i at_j. absurd (none-some x at_i);
    each = λ k a key at_k at_a. absurd (none-some key at_k);
    all = λ i x within at. absurd (omega (arith, within));
  }

  -- the next shape is the same by classes as one that is found, in its class
  pub found_before : (n : ℕ) (seen new : List ShapeTree) (found : List ℕ) (place a : ℕ) (x : ShapeTree) →
      AreKeysFound shapes classes n seen found →
      slice_get shapes n ≡ Some x → IsPlaced seen (by_classes classes x) new place → place ≢ length found →
      a ≡ get_or found place a → a ≡ get_or classes n 0 → AreKeysFound shapes classes (n + 1) new found
  found_before n seen new found place a x are at (inr p) old is same = absurd (old (p.1 ∙ sym are.long))
  found_before n seen new found place a x are at (inl p) old is same = subst (λ xs. AreKeysFound shapes classes (n + 1) xs found)
      (sym p.0) (record {
        long = are.long;
        once = are.once;
        each = are.each;
        all = λ i y within there. by i y (here_or_before i within) there;
      })
    where
      here_or_before : (i : ℕ) → i < n + 1 → (i ≡ n) ⊎ (i < n)
      here_or_before i within = grind (arith, within)

      in_found : place < length found
      in_found = let w : place < length seen = slice_get_within seen place (by_classes classes x) p.1 in omega (arith, w, are.long)

      by : (i : ℕ) (y : ShapeTree) → (i ≡ n) ⊎ (i < n) → slice_get shapes i ≡ Some y →
          (k : ℕ) × (slice_get seen k ≡ Some (by_classes classes y)) × (slice_get found k ≡ Some (get_or classes i 0))
      by i y (inr before) there = are.all i y before there
      by i y (inl here) there =
          let one : x ≡ y = slice_get_one shapes n x y at (subst (λ m. slice_get shapes m ≡ Some y) here there) in (
            place,
            p.1 ∙ ap (λ z. Some (by_classes classes z)) one,
            slice_get_read found (length found) place a refl in_found is ∙ ap Some (same ∙ ap (λ m. get_or classes m 0) (sym here)),
          )

  -- it is a new one
  pub found_new : (n : ℕ) (seen new : List ShapeTree) (found longer : List ℕ) (place : ℕ) (x : ShapeTree) →
      AreKeysFound shapes classes n seen found →
      slice_get shapes n ≡ Some x → IsPlaced seen (by_classes classes x) new place → place ≡ length found →
      longer ≡ found ++ get_or classes n 0 ∷ [] → AreKeysFound shapes classes (n + 1) new longer
  found_new n seen new found longer place x are at (inl p) is pushed =
      absurd (let w : place < length seen = slice_get_within seen place (by_classes classes x) p.1 in omega (arith, w, are.long, is))
  found_new n seen new found longer place x are at (inr p) is pushed =
      subst (λ ns. AreKeysFound shapes classes (n + 1) new ns) (sym pushed)
      (subst (λ xs. AreKeysFound shapes classes (n + 1) xs (found ++ get_or classes n 0 ∷ [])) (sym p.0) (record {
        long =
            let more : length (found ++ get_or classes n 0 ∷ []) ≡ length found + 1 = length_push found (get_or classes n 0) in
            let longer_seen : length (seen ++ key ∷ []) ≡ length seen + 1 = length_push seen key in
            omega (arith, more, longer_seen, are.long);
        once = λ i j y at_i at_j. by_once i j y (slice_get_push seen _ i y at_i) (slice_get_push seen _ j y at_j);
        each = λ k a key at_k at_a. by_each k a key (slice_get_push seen _ k key at_k) (slice_get_push found _ k a at_a);
        all = λ i y within there. by_all i y (here_or_before i within) there;
      }))
    where
      key : ShapeTree
      key = by_classes classes x

      here_or_before : (i : ℕ) → i < n + 1 → (i ≡ n) ⊎ (i < n)
      here_or_before i within = grind (arith, within)

      by_once : (i j : ℕ) (y : ShapeTree) → ((i < length seen) × (slice_get seen i ≡ Some y)) ⊎ ((i ≡ length seen) × (key ≡ y)) →
          ((j < length seen) × (slice_get seen j ≡ Some y)) ⊎ ((j ≡ length seen) × (key ≡ y)) → i ≡ j
      by_once i j y (inl a) (inl b) = are.once i j y a.1 b.1
      by_once i j y (inl a) (inr b) = absurd (p.2 i (a.1 ∙ ap Some (sym b.1)))
      by_once i j y (inr a) (inl b) = absurd (p.2 j (b.1 ∙ ap Some (sym a.1)))
      by_once i j y (inr a) (inr b) = a.0 ∙ sym b.0

      by_each : (k a : ℕ) (y : ShapeTree) → ((k < length seen) × (slice_get seen k ≡ Some y)) ⊎ ((k ≡ length seen) × (key ≡ y)) →
          ((k < length found) × (slice_get found k ≡ Some a)) ⊎ ((k ≡ length found) × (get_or classes n 0 ≡ a)) →
          (i : ℕ) × (z : ShapeTree) × (slice_get shapes i ≡ Some z) × (by_classes classes z ≡ y) × (get_or classes i 0 ≡ a)
      by_each k a y (inl u) (inl v) = are.each k a y u.1 v.1
      by_each k a y (inr u) (inr v) = (n, x, at, u.1, v.1)
      by_each k a y (inl u) (inr v) = absurd (omega (arith, u.0, v.0, are.long))
      by_each k a y (inr u) (inl v) = absurd (omega (arith, u.0, v.0, are.long))

      by_all : (i : ℕ) (y : ShapeTree) → (i ≡ n) ⊎ (i < n) → slice_get shapes i ≡ Some y →
          (k : ℕ) × (slice_get (seen ++ key ∷ []) k ≡ Some (by_classes classes y))
          × (slice_get (found ++ get_or classes n 0 ∷ []) k ≡ Some (get_or classes i 0))
      by_all i y (inr before) there =
          let old = are.all i y before there in
          (old.0, slice_get_grown seen _ old.0 _ old.1, slice_get_grown found _ old.0 _ old.2)
      by_all i y (inl here) there =
          let one : x ≡ y = slice_get_one shapes n x y at (subst (λ m. slice_get shapes m ≡ Some y) here there) in (
            length seen,
            slice_get-behind seen key [] ∙ ap (λ z. Some (by_classes classes z)) one,
            subst (λ m. slice_get (found ++ get_or classes n 0 ∷ []) m ≡ Some (get_or classes i 0)) are.long
                (slice_get-behind found _ [] ∙ ap (λ m. Some (get_or classes m 0)) (sym here)),
          )

  -- it is the same by classes as one in another class
  pub found_apart : (n : ℕ) (seen new : List ShapeTree) (found : List ℕ) (place a : ℕ) (x : ShapeTree) →
      AreKeysFound shapes classes n seen found →
      slice_get shapes n ≡ Some x → IsPlaced seen (by_classes classes x) new place → place ≢ length found →
      a ≡ get_or found place a → a ≢ get_or classes n 0 → IsApart shapes classes a (get_or classes n 0)
  found_apart n seen new found place a x are at (inr p) old is other = absurd (old (p.1 ∙ sym are.long))
  found_apart n seen new found place a x are at (inl p) old is other =
      let w : place < length seen = slice_get_within seen place (by_classes classes x) p.1 in
      let in_found : place < length found = omega (arith, w, are.long) in
      let first = are.each place a (by_classes classes x) p.1 (slice_get_read found (length found) place a refl in_found is) in
      record {
        i = first.0;
        j = n;
        x = first.1;
        y = x;
        is_x = first.2;
        is_y = at;
        alike = first.3;
        in_a = first.4;
        in_b = refl;
        differ = other;
      }

  -- all are found
  pub all_found : (n : ℕ) (seen : List ShapeTree) (found : List ℕ) → AreKeysFound shapes classes n seen found → length shapes ≤ n →
      IsClosed shapes classes
  all_found n seen found are past i j x y at_i at_j alike =
      let in_i : i < length shapes = slice_get_within shapes i x at_i in
      let in_j : j < length shapes = slice_get_within shapes j y at_j in
      let first = are.all i x (omega (arith, in_i, past)) at_i in
      let second = are.all j y (omega (arith, in_j, past)) at_j in
      let one : first.0 ≡ second.0 = are.once first.0 second.0 (by_classes classes x) first.1 (second.1 ∙ ap Some (sym alike)) in
      same_Some _ _ (sym first.2 ∙ ap (slice_get found) one ∙ second.2)

-- a shape that is read stands there
pub shape_there : (shapes : List Shape) (i : ℕ) (s : Shape) → i < length shapes → s ≡ get_or shapes i s →
    slice_get (shape_trees shapes) i ≡ Some (shape_tree s)
shape_there shapes i s within is = slice_get-map shape_tree shapes i ∙ ap (option_map shape_tree)
    (slice_get_read shapes (length shapes) i s refl within is)

-- a shape that is not a new one is at a place of those that are found
pub placed_within : (shapes : List ShapeTree) (classes : List ℕ) (n : ℕ) (seen new : List ShapeTree) (found : List ℕ) (key : ShapeTree)
    (place : ℕ) →
    AreKeysFound shapes classes n seen found → IsPlaced seen key new place → place ≢ length found → place < length found
placed_within shapes classes n seen new found key place are (inr p) old = absurd (old (p.1 ∙ sym are.long))
placed_within shapes classes n seen new found key place are (inl p) old =
    let w : place < length seen = slice_get_within seen place key p.1 in omega (arith, w, are.long)

-- what is read twice at one place
pub once_read : (xs : List ℕ) (i a b : ℕ) → i < length xs → a ≡ get_or xs i a → b ≡ get_or xs i b → a ≡ b
once_read xs i a b within is_a is_b =
    same_Some _ _ (sym (slice_get_read xs (length xs) i a refl within is_a) ∙ slice_get_read xs (length xs) i b refl within is_b)
