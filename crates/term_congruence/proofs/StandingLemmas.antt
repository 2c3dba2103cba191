-- Each label stands for a free term: it stays so where the shape of one is added, and then the parts of shapes are labels.
use Rattle.std.proofs.Common.{◌≡◌, ◌∙◌, ℕ, ◌<◌, ◌⊎◌, List, [], ◌∷◌, ◌++◌, length, Some, slice_get, refl, sym, ap, subst, inl, inr}
use Rattle.std.specs.List.{AllByRecursion}
use Rattle.std.proofs.lemmas.Option.{slice_get_within}
use Rattle.base_library.proofs.Each.{each_from_places}
use Rattle.base_library.proofs.Places.{slice_get_push, slice_get_grown, slice_get-behind}
use Rattle.tsl_terms.specs.FreeTree.{FreeTree, leaf_at, applied, FreeTrees, no_free, more_free}
use Rattle.term_congruence.specs.internal.Shapes.{ShapeTree, leaf_shape, applied_shape, IsLabelOf, AreLabelsOf, AreDifferent, AllStand, Stands, KeepsShapes}
use Rattle.term_congruence.specs.internal.Closing.{IsPlaced, HasPartsBelow}
use Rattle.term_congruence.proofs.Labels.{label_stays, labels_stay}
use Rattle.term_congruence.proofs.TreeLemmas.{applied_at}

-- one more shape at the end
module _ (old : List ShapeTree) (x : ShapeTree) (fresh : (i : ℕ) → slice_get old i ≡ Some x → ⊥) (stands : Stands old x) where
  kept : (i : ℕ) (y : ShapeTree) → slice_get old i ≡ Some y → slice_get (old ++ x ∷ []) i ≡ Some y
  kept i y at = slice_get_grown old (x ∷ []) i y at

  different : AreDifferent old → AreDifferent (old ++ x ∷ [])
  different before i j y at_i at_j = by (slice_get_push old x i y at_i) (slice_get_push old x j y at_j)
    where
      by : ((i < length old) × (slice_get old i ≡ Some y)) ⊎ ((i ≡ length old) × (x ≡ y)) →
          ((j < length old) × (slice_get old j ≡ Some y)) ⊎ ((j ≡ length old) × (x ≡ y)) → i ≡ j
      by (inl p) (inl q) = before i j y p.1 q.1
      by (inl p) (inr q) = absurd (fresh i (p.1 ∙ ap Some (sym q.1)))
      by (inr p) (inl q) = absurd (fresh j (q.1 ∙ ap Some (sym p.1)))
      by (inr p) (inr q) = p.0 ∙ sym q.0

  stand_at_end : (y : ShapeTree) → x ≡ y → Stands old y → (t : FreeTree) × IsLabelOf (old ++ x ∷ []) t (length old)
  stand_at_end (leaf_shape s t) is here = (leaf_at s t, slice_get-behind old x [] ∙ ap Some is)
  stand_at_end (applied_shape f ls) is here =
      (applied f here.0, (ls, slice_get-behind old x [] ∙ ap Some is, labels_stay old (old ++ x ∷ []) kept here.0 ls here.1))

  standing : AllStand old → AllStand (old ++ x ∷ [])
  standing before n s at = by (slice_get_push old x n s at)
    where
      by : ((n < length old) × (slice_get old n ≡ Some s)) ⊎ ((n ≡ length old) × (x ≡ s)) → (t : FreeTree) × IsLabelOf (old ++ x ∷ []) t n
      by (inl p) = let b = before n s p.1 in (b.0, label_stays old (old ++ x ∷ []) kept b.0 n b.1)
      by (inr p) = subst (λ k. (t : FreeTree) × IsLabelOf (old ++ x ∷ []) t k) (sym p.0) (stand_at_end x refl stands)

  pub grown : KeepsShapes old (old ++ x ∷ [])
  grown = record { kept = kept; different = different; standing = standing }

pub placed_keeps : (old new : List ShapeTree) (x : ShapeTree) (place : ℕ) → Stands old x → IsPlaced old x new place → KeepsShapes old new
placed_keeps old new x place stands (inl p) =
    subst (KeepsShapes old) (sym p.0) (record { kept = λ i y at. at; different = λ before. before; standing = λ before. before })
placed_keeps old new x place stands (inr p) = subst (KeepsShapes old) (sym p.0) (grown old x p.2 stands)

pub placed_there : (old new : List ShapeTree) (x : ShapeTree) (place : ℕ) → IsPlaced old x new place → slice_get new place ≡ Some x
placed_there old new x place (inl p) = ap (λ xs. slice_get xs place) p.0 ∙ p.1
placed_there old new x place (inr p) = (λ i. slice_get (p.0 i) (p.1 i)) ∙ slice_get-behind old x []

-- ---- the parts of shapes are labels

pub label_within : (shapes : List ShapeTree) (x : FreeTree) (n : ℕ) → IsLabelOf shapes x n → n < length shapes
label_within shapes (leaf_at s t) n is = slice_get_within shapes n (leaf_shape s t) is
label_within shapes (applied f xs) n is = slice_get_within shapes n (applied_shape f is.0) is.1

pub labels_within : (shapes : List ShapeTree) (xs : FreeTrees) (ns : List ℕ) → AreLabelsOf shapes xs ns → AllByRecursion
    (λ l. l < length shapes) ns
labels_within shapes no_free [] are = tt
labels_within shapes no_free (n ∷ ns) are = absurd are
labels_within shapes (more_free x xs) [] are = absurd are
labels_within shapes (more_free x xs) (n ∷ ns) are = (label_within shapes x n are.0, labels_within shapes xs ns are.1)

pub parts_below : (shapes : List ShapeTree) → AllStand shapes → AllByRecursion (HasPartsBelow (length shapes)) shapes
parts_below shapes stand = each_from_places (HasPartsBelow (length shapes)) shapes (λ i s at. by i s at (stand i s at))
  where
    by : (i : ℕ) (s : ShapeTree) → slice_get shapes i ≡ Some s → (x : FreeTree) × IsLabelOf shapes x i → HasPartsBelow (length shapes) s
    by i (leaf_shape s t) at has = tt
    by i (applied_shape f ls) at has =
        let parts = applied_at shapes has.0 i f ls has.1 at in labels_within shapes parts.0 ls parts.2
